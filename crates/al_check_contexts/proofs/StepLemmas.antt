-- The fields of `steps` by counts of steps: where the table has grown, and as steps are gone through.
use Rattle.std.proofs.Common.{◌≡◌, ◌≢◌, ◌<◌, ◌≤◌, ◌+◌, ⊎_elim, ℕ, List, [], ◌∷◌, ◌++◌, length, map, take, get_or, refl, sym, ap, subst, ◌∙◌, Bool, Option, Some, None, true, false, arith, zero, suc}
use Rattle.std.proofs.Math.ListN.{get_or-map}
use Rattle.std.proofs.Math.Seq.{get_or-append_seam}
use Rattle.std.proofs.lemmas.Bool.{cases_eq}
use Rattle.std.proofs.lemmas.List.{get_or_append_left, length-append, length-map, length-take, take_all, take_more}
use Rattle.std.proofs.lemmas.List.Elements.{filter_map-append}
use Rattle.std.specs.List.{cons_option, enumerate_from, filter_map}
use Rattle.std.specs.Option.{option_to_list}
use Rattle.std.specs.Prelude.{if◌then◌else◌, zip}
use Rattle.al_base.specs.Growth.{BeginsWith}
use Rattle.al_base.specs.Names.{same_name}
use Rattle.al_types.specs.Puts.{TypedName, firsts, put_all, put_new}
use Rattle.al_yaml_tree.specs.Node.{Node}
use Rattle.al_check_places.specs.declared.positions.Seen.TheVariants.{Before as before}
use Rattle.al_check_contexts.specs.Contexts.{OutputNames, Owner, step_field, steps_type}
use Rattle.al_check_objects.specs.Objects.{strictly}
use Rattle.al_types.specs.Types.{object_type}
use Rattle.al_expr_types.specs.Names.{names_in}
use Rattle.al_expr_types.specs.Prefixes.{HasPrefix, map_in, prefix_parts}
use Rattle.al_expr_types.specs.Tables.{is_known, objects_of, type_at}
use Rattle.al_expr_types.specs.Types.{type_in}
use Rattle.al_expr_types.specs.declared.prefixes.Prefixes.{Prefixes}
use Rattle.al_expr_types.specs.declared.ty.Ty.{Ty}
use Rattle.al_expr_types.specs.declared.types.Types.{Types}
use Rattle.al_expr_types.proofs.PrefixLemmas.{prefix_longer, types_wider}
use Rattle.al_check_objects.specs.Numbers.{Means}
use Rattle.al_expr_types.specs.FieldMaps.{fields_in, is_map_below}
use Rattle.al_check_contexts.specs.Steps.{ArePrefixes, AreSteps, AreStepsOf, IsCount, first_fields}
use Rattle.al_check_contexts.specs.declared.steps.StepFields.{StepFields}
use Rattle.al_check_objects.proofs.FieldLists.{put_all_more}
use Rattle.al_expr_types.proofs.FieldMaps.{fields_stay}

-- ---- the first of fields, with more appended

kept_step : (b : Bool) (n : ℕ) (q : TypedName) (qs more : List TypedName) → take n more ≡ take n qs → take (suc n) (if b then q ∷ qs else q ∷ more) ≡ take (suc n) (q ∷ qs)
kept_step true n q qs more e = refl
kept_step false n q qs more e = ap (λ us. q ∷ us) e

first_kept : (ts : List TypedName) (p : TypedName) (n : ℕ) → n ≤ length ts → take n (put_new ts p) ≡ take n ts
first_kept ts p zero h = refl
first_kept [] p (suc n) h = absurd (omega (arith, h))
first_kept (q ∷ qs) p (suc n) h = kept_step (same_name q.0 p.0) n q qs (put_new qs p) (first_kept qs p n (omega (arith, h)))

long_step : (b : Bool) (q : TypedName) (qs more : List TypedName) → length qs ≤ length more → length (q ∷ qs) ≤ length (if b then q ∷ qs else q ∷ more)
long_step true q qs more h = omega arith
long_step false q qs more h = omega (arith, h)

no_shorter : (ts : List TypedName) (p : TypedName) → length ts ≤ length (put_new ts p)
no_shorter [] p = omega arith
no_shorter (q ∷ qs) p = long_step (same_name q.0 p.0) q qs (put_new qs p) (no_shorter qs p)

-- stay
firsts_kept : (ts ps : List TypedName) (n : ℕ) → n ≤ length ts → (n ≤ length (put_all put_new ts ps)) × (take n (put_all put_new ts ps) ≡ take n ts)
firsts_kept ts [] n h = (h, refl)
firsts_kept ts (p ∷ ps) n h =
    let longer = no_shorter ts p in
    let more = firsts_kept (put_new ts p) ps n (omega (arith, h, longer)) in
    (more.0, more.1 ∙ first_kept ts p n h)

-- ---- in longer tables

pub prefixes_stay : (new old : Types) (s : StepFields) → BeginsWith (objects_of new) (objects_of old) → ArePrefixes old s → ArePrefixes new s
prefixes_stay new old s b h = record {
  below = types_wider new.objects.items old.objects.items (map_in s.prefixes) b h.below;
  base = prefix_longer new old (map_in s.prefixes) s.prefixes.base b h.below h.base;
  inside = h.inside;
}

pub owned_steps_stay : (new old : Types) (known : OutputNames) (o : Owner) (s : StepFields) → BeginsWith (objects_of new) (objects_of old) → ArePrefixes old s →
    AreSteps old known o s → AreSteps new known o s
owned_steps_stay new old known o s b p h = record {
  all = h.all;
  counts = λ k lt. subst (λ ts. IsCount ts (get_or s.counts.items k 0) (first_fields known o k)) (sym (fields_stay new old (map_in s.prefixes) b p.below))
      (h.counts k lt);
}

pub steps_stay : (new old : Types) (known : OutputNames) (o : Option Owner) (s : StepFields) → BeginsWith (objects_of new) (objects_of old) → ArePrefixes old s →
    AreStepsOf old known o s → AreStepsOf new known o s
steps_stay new old known None s b p h = h
steps_stay new old known (Some o) s b p h = owned_steps_stay new old known o s b p h

-- ---- one step more

numbered_more : (n : ℕ) (ss : List Node) (s : Node) → enumerate_from n (ss ++ s ∷ []) ≡ enumerate_from n ss ++ (n + length ss, s) ∷ []
numbered_more n [] s = let e : n ≡ n + 0 = omega arith in ap (λ m. (m, s) ∷ []) e
numbered_more n (t ∷ ss) s =
    let e : (n + 1) + length ss ≡ n + length (t ∷ ss) = omega arith in
    ap (λ us. (n, t) ∷ us) (numbered_more (n + 1) ss s ∙ ap (λ m. enumerate_from (n + 1) ss ++ (m, s) ∷ []) e)

alone : (o : Option TypedName) → cons_option o [] ≡ option_to_list o
alone None = refl
alone (Some p) = refl

module _ {X : Type 0} (g : X → Node) (known : OutputNames) (job : Option (List ℕ)) where
  abbrev fields_of_first : List X → ℕ → List TypedName
  fields_of_first xs k = firsts (filter_map (step_field known job) (enumerate_from 0 (take k (map g xs))))

  pub fields_next : (xs : List X) (i : ℕ) (x : X) → i < length xs → x ≡ get_or xs i x →
      fields_of_first xs (i + 1) ≡ put_all put_new (fields_of_first xs i) (option_to_list (step_field known job (i, g x)))
  fields_next xs i x lt e =
      let ss = take i (map g xs) in
      let field = step_field known job in
      let before : List TypedName = filter_map field (enumerate_from 0 ss) in
      let within : i < length (map g xs) = omega (arith, lt, length-map xs g) in
      let len : 0 + length ss ≡ i = omega (arith, length-take i (map g xs), within) in
      ap (λ us. firsts (filter_map field (enumerate_from 0 us)))
      (take_more (map g xs) i (g x) within ∙ ap (λ y. ss ++ y ∷ []) (get_or-map g xs i x ∙ ap g (sym e)))
      ∙ ap (λ us. firsts (filter_map field us)) (numbered_more 0 ss (g x))
      ∙ ap firsts (filter_map-append field (enumerate_from 0 ss) ((0 + length ss, g x) ∷ []))
      ∙ put_all_more put_new [] before (filter_map field ((0 + length ss, g x) ∷ []))
      ∙ ap (put_all put_new (firsts before)) (alone (field (0 + length ss, g x)))
      ∙ ap (λ n. put_all put_new (firsts before) (option_to_list (field (n, g x)))) len

-- ---- counts

-- a count so far, and those of more steps
pub counts_more : (at : ℕ → List TypedName) (cs new : List ℕ) (n i : ℕ) (p : Option TypedName) → length cs ≡ i + 1 → new ≡ cs ++ n ∷ [] →
    at (i + 1) ≡ put_all put_new (at i) (option_to_list p) → n ≡ length (at (i + 1)) →
    ((k : ℕ) → k < length cs → IsCount (at i) (get_or cs k 0) (at k)) → (k : ℕ) → k < length new → IsCount (at (i + 1)) (get_or new k 0) (at k)
counts_more at cs new n i p len is next long each k lt =
    let size : length new ≡ length cs + 1 = ap length is ∙ length-append cs (n ∷ []) in
    ⊎_elim
    (λ (here : k ≡ length cs).
    let count : get_or new k 0 ≡ n = ap (λ xs. get_or xs k 0) is ∙ ap (λ j. get_or (cs ++ n ∷ []) j 0) here ∙ get_or-append_seam cs n [] 0 in
    (omega (arith, count, long), take_all (get_or new k 0) (at (i + 1)) (omega (arith, count, long)) ∙ ap at (sym (here ∙ len))))
    (λ (other : k ≢ length cs).
    let within : k < length cs = omega (arith, lt, size, other) in
    let count : get_or new k 0 ≡ get_or cs k 0 = ap (λ xs. get_or xs k 0) is ∙ get_or_append_left cs (n ∷ []) 0 k within in
    let old = each k within in
    let kept = firsts_kept (at i) (option_to_list p) (get_or cs k 0) old.0 in
    subst (λ ts. IsCount ts (get_or new k 0) (at k)) (sym next)
    (subst (λ m. IsCount (put_all put_new (at i) (option_to_list p)) m (at k)) (sym count) (kept.0, kept.1 ∙ old.1)))
    (cases_eq k (length cs))

-- ---- the first fields as an object

first_zipped : {A B C : Type 0} (f : B → C) (n : ℕ) (xs : List A) (ys : List B) → zip xs (map f (take n ys)) ≡ take n (zip xs (map f ys))
first_zipped f zero [] ys = refl
first_zipped f zero (x ∷ xs) ys = refl
first_zipped f (suc n) [] ys = refl
first_zipped f (suc n) (x ∷ xs) [] = refl
first_zipped f (suc n) (x ∷ xs) (y ∷ ys) = ap (λ zs. (x, f y) ∷ zs) (first_zipped f n xs ys)

-- a number of an object of the first so many fields stands for the type of `steps`
pub first_means : (new old : Types) (known : OutputNames) (o : Option Owner) (s : StepFields) (k n : ℕ) (t : Ty) → k < length s.counts.items →
    n ≡ get_or s.counts.items k 0 → is_known new t ≡ true → type_at new t ≡ object_type (prefix_parts (objects_of old) (map_in s.prefixes) n) →
    AreStepsOf old known o s → Means new t (steps_type known o (before k))
first_means new old known None s k n t lt e there is h = let no : length s.counts.items ≡ 0 = ap length h in absurd (omega (arith, lt, no))
first_means new old known (Some o) s k n t lt e there is h =
    let ms = objects_of old in
    let m = map_in s.prefixes in
    record {
      known = there;
      is = is ∙ ap strictly (first_zipped (type_in ms) n (names_in m.names) m.types.items ∙ ap (λ j. take j (fields_in ms m)) e ∙ (h.counts k lt).1);
    }

-- the same fields with another base
pub steps_with : (types : Types) (known : OutputNames) (o : Option Owner) (s : StepFields) (p : Prefixes) → map_in p ≡ map_in s.prefixes → AreStepsOf types known o s →
    AreStepsOf types known o (record s { prefixes = p })
steps_with types known None s p e h = h
steps_with types known (Some o) s p e h = record {
  all = h.all;
  counts = λ k lt. subst (λ m. IsCount (fields_in (objects_of types) m) (get_or s.counts.items k 0) (first_fields known o k)) (sym e) (h.counts k lt);
}

pub prefixes_with : (types : Types) (s : StepFields) (p : Prefixes) → map_in p ≡ map_in s.prefixes → HasPrefix types (map_in s.prefixes) p.base →
    ArePrefixes types s → ArePrefixes types (record s { prefixes = p })
prefixes_with types s p e b h = record {
  below = ap (is_map_below (length types.objects.items)) e ∙ h.below;
  base = subst (λ m. HasPrefix types m p.base) (sym e) b;
  inside = λ k lt. subst (λ m. get_or s.counts.items k 0 ≤ length m.types.items) (sym e) (h.inside k lt);
}
