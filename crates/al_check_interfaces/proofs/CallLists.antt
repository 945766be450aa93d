-- The list of calls of files in the folder: appending one call, and its targets and faults.
use Rattle.std.proofs.Common.{◌≡◌, ◌<◌, ◌∙◌, ℕ, List, [], ◌∷◌, ◌++◌, Option, Some, None, ap, get_or, length, map, refl, slice_get, sym}
use Rattle.std.specs.Prelude.{option_map}
use Rattle.std.specs.List.{cons_option, filter_map}
use Rattle.std.proofs.lemmas.List.{map-append}
use Rattle.std.proofs.lemmas.Option.{slice_get-get_or, slice_get-map}
use Rattle.al_base.specs.declared.codes.CallCode.TheVariants as code
use Rattle.al_base.specs.declared.faults.Fault.{Fault}
use Rattle.al_lint.specs.declared.lint.Target.{Target}
use Rattle.al_check_interfaces.specs.FolderCalls.{FolderCall, as_folder_call, folder_call}
use Rattle.al_check_interfaces.specs.Uses.{Call, cycle_faults, target_in, targets_of, that_uses}
use Rattle.al_check_interfaces.specs.declared.calls.FolderCall as code_calls
use Rattle.al_check_interfaces.specs.declared.forms.Form.TheVariants.{Local}

pub at_number : {A X : Type 0} (v : A → X) (xs : List A) (i : ℕ) (x : A) → i < length xs → x ≡ get_or xs i x → slice_get (map v xs) i ≡ Some (v x)
at_number v xs i x room is = slice_get-map v xs i ∙ ap (option_map v) (slice_get-get_or xs i x room ∙ ap Some (sym is))

-- a call of a file in the folder is appended
pub local_added : (c : Call) (t : Target) (number : ℕ) (fault : Fault) (all : List Call) (old new : List code_calls.FolderCall) → c.form ≡ Local t → slice_get all number ≡ Some c →
    fault ≡ that_uses code.CallCycle c → new ≡ old ++ record { number = number; target = t; fault = fault } ∷ [] →
    map (folder_call all) new ≡ map (folder_call all) old ++ cons_option (as_folder_call c) []
local_added c t number fault all old new form at said more =
    ap (map (folder_call all)) more ∙ map-append (folder_call all) old (record { number = number; target = t; fault = fault } ∷ []) ∙ (λ i. map (folder_call all) old ++ (at i, t, said i) ∷ [])
    ∙ ap (λ f. map (folder_call all) old ++ cons_option (option_map (λ x. (Some c, x, that_uses code.CallCycle c)) (target_in f)) []) (sym form)

-- mapping the folder calls among `cs` is one `filter_map` over `cs`
of_kept : {X : Type 0} (f : FolderCall → X) (g : Call → Option X) → ((c : Call) → option_map f (as_folder_call c) ≡ g c) → (cs : List Call) → map f (filter_map as_folder_call cs) ≡ filter_map g cs
of_kept f g h [] = refl
of_kept f g h (c ∷ cs) = put (as_folder_call c) (of_kept f g h cs) ∙ ap (λ o. cons_option o (filter_map g cs)) (h c)
  where
    put : (o : Option FolderCall) → map f (filter_map as_folder_call cs) ≡ filter_map g cs → map f (cons_option o (filter_map as_folder_call cs)) ≡ cons_option (option_map f o) (filter_map g cs)
    put None rest = rest
    put (Some k) rest = ap (λ l. f k ∷ l) rest

map_seen : {X : Type 0} (f : FolderCall → X) (all : List Call) (calls : List code_calls.FolderCall) → map f (map (folder_call all) calls) ≡ map (λ c. f (folder_call all c)) calls
map_seen f all [] = refl
map_seen f all (c ∷ calls) = ap (λ l. f (folder_call all c) ∷ l) (map_seen f all calls)

module _ (cs : List Call) (calls : List code_calls.FolderCall) (are : map (folder_call cs) calls ≡ filter_map as_folder_call cs) where
  pub kept_targets : map (λ c. c.target) calls ≡ targets_of cs
  kept_targets = sym (map_seen (λ k. k.1) cs calls) ∙ ap (map (λ k. k.1)) are ∙ of_kept (λ k. k.1) (λ c. target_in c.form) (λ c. by (target_in c.form) c) cs
    where
      by : (o : Option Target) (c : Call) → option_map (λ (k : FolderCall). k.1) (option_map (λ t. (Some c, t, that_uses code.CallCycle c)) o) ≡ o
      by None c = refl
      by (Some t) c = refl

  pub kept_faults : map (λ c. c.fault) calls ≡ cycle_faults cs
  kept_faults =
      sym (map_seen (λ k. k.2) cs calls) ∙ ap (map (λ k. k.2)) are
      ∙ of_kept (λ k. k.2) (λ c. option_map (λ t. that_uses code.CallCycle c) (target_in c.form)) (λ c. by (target_in c.form) c) cs
    where
      by : (o : Option Target) (c : Call) → option_map (λ (k : FolderCall). k.2) (option_map (λ t. (Some c, t, that_uses code.CallCycle c)) o)
          ≡ option_map (λ t. that_uses code.CallCycle c) o
      by None c = refl
      by (Some t) c = refl
