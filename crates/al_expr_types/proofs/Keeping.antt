-- The caches of a table of objects stay right when objects are appended, and when an entry is inserted.
use Rattle.std.proofs.Common.{◌≡◌, ◌<◌, ◌≤◌, ◌+◌, ℕ, List, [], ◌∷◌, ◌++◌, length, map, take, get_or, cond, Bool, true, false, Option, Some, None, Result, Ok, Err, Bor}
use Rattle.std.proofs.Common.{refl, sym, ap, subst, ◌∙◌, arith}
use Rattle.std.proofs.lemmas.Bool.{lt-ltb, ltb-true}
use Rattle.std.proofs.lemmas.Bool.Decides.{nat_tests}
use Rattle.std.proofs.lemmas.List.{length-append, map-append}
use Rattle.std.specs.BTreeMap.{BTreeMap, IsUnchanged, Updates, get, is_at}
use Rattle.std.specs.List.{list_all}
use Rattle.std.specs.Map.{lookup}
use Rattle.std.specs.Ordering.{is_eq, nat_cmp}
use Rattle.std.specs.Option.{option_copied}
use Rattle.std.specs.Prelude.{IfSome, OnErr, OnOk, option_map}
use Rattle.al_base.specs.Growth.{BeginsWith}
use Rattle.al_types.specs.Types.{Optional, Present, option_of}
use Rattle.al_types.proofs.FuseLaws.{optional_back}
use Rattle.al_expr_types.specs.Joining.{is_join_below, join_in}
use Rattle.al_expr_types.specs.declared.joining.Join.{Join}
use Rattle.al_expr_types.specs.Kept.{AreCommons, AreIndexes, IsCommon, IsFieldIndex}
use Rattle.al_expr_types.specs.declared.objects.Fields.{Fields}
use Rattle.al_expr_types.specs.Types.{is_below, object_in, parts_of_all, type_in}
use Rattle.al_expr_types.specs.declared.objects.Object.{Object}
use Rattle.al_expr_types.specs.declared.ty.Ty.{Ty}
use Rattle.al_expr_types.specs.declared.types.Types.{Types}
use Rattle.al_expr_types.proofs.Below.{Has, fields_same, has_itself, has_longer, joined_same, rest_same, same_mapped, type_same}
use Rattle.al_expr_types.proofs.Gathering.{rest_is}
use Rattle.al_expr_types.proofs.Scans.{mapped_more}
use Rattle.al_expr_types.proofs.Tables.{length_after}

-- the longer table has at least as many objects
pub longer : (new old : List Object) → BeginsWith (parts_of_all new) (parts_of_all old) → length old ≤ length new
longer new old b =
    let a = length_after [] old in
    let c = length_after [] new in
    let e = ap length b.is ∙ length-append (parts_of_all old) b.more in
    omega (arith, a, c, e)

pub has_old : (new old : List Object) → BeginsWith (parts_of_all new) (parts_of_all old) → Has (parts_of_all new) (parts_of_all old) (length old) (length new)
has_old new old b =
    let len = length_after [] old in
    subst (λ ms. Has ms (parts_of_all old) (length old) (length new)) (sym b.is)
    (has_longer (parts_of_all old) b.more (length old) (length new) (omega (arith, len)) (longer new old b))

pub same_there : (new old : List Object) (n : ℕ) → BeginsWith (parts_of_all new) (parts_of_all old) → n < length old →
    object_in (parts_of_all new) n ≡ object_in (parts_of_all old) n
same_there new old n b lt = (has_old new old b n (lt-ltb n (length old) lt)).1

pub commons_longer : (new old : List Object) (kept : BTreeMap ℕ (Option Ty)) → BeginsWith (parts_of_all new) (parts_of_all old) → AreCommons old kept → AreCommons new kept
commons_longer new old kept b h n t e =
    let is = h n t e in
    let rest = rest_same (parts_of_all new) (parts_of_all old) (length old) (length new) (has_old new old b) t is.1 in
    let there = has_old new old b n (lt-ltb n (length old) is.0) in
    (ltb-true n (length new) there.0, rest.0, rest.1 ∙ is.2 ∙ ap (λ p. p.2) (sym there.1))

pub indexes_longer : (new old : List Object) (kept : BTreeMap ℕ Fields) → BeginsWith (parts_of_all new) (parts_of_all old) → AreIndexes old kept → AreIndexes new kept
indexes_longer new old kept b h n f e =
    let is = h n f e in
    let fields = fields_same (parts_of_all new) (parts_of_all old) (length old) (length new) (has_old new old b) f is.0.1 in
    let there = has_old new old b n (lt-ltb n (length old) is.0.0) in (
      (ltb-true n (length new) there.0, fields.0),
      (ap (λ p. p.0) fields.1 ∙ is.1.0 ∙ ap (λ p. p.0) (sym there.1), ap (λ p. p.1) fields.1 ∙ is.1.1 ∙ ap (λ p. p.1) (sym there.1)),
    )

-- ---- inserting an entry

same_number : (n m : ℕ) → is_eq (nat_cmp n m) ≡ true → n ≡ m
same_number n m e = grind (arith, nat_tests)

module _ {X : Type 0} (P : ℕ → X → Type 0) where
  -- every entry satisfies the predicate
  abbrev Each : BTreeMap ℕ X → Type 0
  Each kept = (n : ℕ) (x : X) → get nat_cmp kept n ≡ Some x → P n x

  insert_step : (b : Bool) (o : Option X) (n m : ℕ) (x y : X) → (b ≡ true → n ≡ m) → P n x → (o ≡ Some y → P m y) → cond b (Some x) o ≡ Some y → P m y
  insert_step true o n m x y here h each e = let same : x ≡ y = cc in subst (λ k. P k y) (here refl) (subst (P n) same h)
  insert_step false o n m x y here h each e = each e

  pub each_insert : {E : Type 0} (r : Result (Option X) E) (old new : BTreeMap ℕ X) (n : ℕ) (x : X) → OnOk r (Updates nat_cmp old new n (Some x)) →
      OnErr r (IsUnchanged old new) → P n x → Each old → Each new
  each_insert (Ok o) old new n x updates unchanged h each m y e =
      insert_step (is_at (nat_cmp n) m) (get nat_cmp old m) n m x y (same_number n m) h (each m y)
      (sym (updates.0 m) ∙ e)
  each_insert (Err o) old new n x updates unchanged h each m y e = each m y (ap (lookup (is_at (nat_cmp m))) (sym unchanged) ∙ e)

-- ---- looking up an entry

pub common_at : (types : Types) (n : ℕ) (o : Option (Option Ty)) → o ≡ get nat_cmp types.commons n → IfSome o (IsCommon types.objects.items n)
common_at types n None e = tt
common_at types n (Some t) e = types.common n t (sym e)

pub index_at : (types : Types) (n : ℕ) (o : Option (Bor Fields)) → option_copied o ≡ get nat_cmp types.indexes n → IfSome o (λ f. IsFieldIndex types.objects.items n f.now)
index_at types n None e = tt
index_at types n (Some f) e = types.indexed n f.now (sym e)

-- ---- the cached type as an answer

pub kept_answer : (os : List Object) (n : ℕ) (t : Option Ty) → IsCommon os n t → option_map (type_in (parts_of_all os)) t ≡ option_of (object_in (parts_of_all os) n).2
kept_answer os n t h = sym (optional_back (option_map (type_in (parts_of_all os)) t)) ∙ ap option_of (sym (rest_is (parts_of_all os) t) ∙ h.2)

-- ---- a join means the same in a longer table

pub joined_longer : (new old : List Object) (j : Join) → BeginsWith (parts_of_all new) (parts_of_all old) → is_join_below (length old) j ≡ true →
    join_in (parts_of_all new) j ≡ join_in (parts_of_all old) j
joined_longer new old j b h = (joined_same (parts_of_all new) (parts_of_all old) (length old) (length new) (has_old new old b) j h).1

pub joined_wider : (m n : ℕ) → m ≤ n → (j : Join) → is_join_below m j ≡ true → is_join_below n j ≡ true
joined_wider m n le j h = (joined_same [] [] m n (has_itself [] m n le) j h).0

-- Appending the type made from the next join, in a table that has grown meanwhile, keeps the invariant.
pub made_next : (entry now next : List Object) (js : List Join) (i : ℕ) (j : Join) (ts new : List Ty) (t : Ty) →
    BeginsWith (parts_of_all now) (parts_of_all entry) → BeginsWith (parts_of_all next) (parts_of_all now) → i < length js → j ≡ get_or js i j →
    is_join_below (length entry) j ≡ true → list_all (is_below (length now)) ts ≡ true → new ≡ ts ++ t ∷ [] →
    map (λ u. Present (type_in (parts_of_all now) u)) ts ≡ map (join_in (parts_of_all entry)) (take i js) →
    Present (type_in (parts_of_all next) t) ≡ join_in (parts_of_all now) j →
    map (λ u. Present (type_in (parts_of_all next) u)) new ≡ map (join_in (parts_of_all entry)) (take (i + 1) js)
made_next entry now next js i j ts new t kept more lt e below known is old step =
    let all : Ty → Optional = λ u. Present (type_in (parts_of_all next) u) in
    let has = has_old next now more in
    let each : (u : Ty) → is_below (length now) u ≡ true → all u ≡ Present (type_in (parts_of_all now) u) =
    λ u h. ap Present (type_same (parts_of_all next) (parts_of_all now) (length now) (length next) has u h).1 in
    let prefix = same_mapped (is_below (length now)) all (λ u. Present (type_in (parts_of_all now) u)) each ts known ∙ old in
    let last = step ∙ joined_longer now entry j kept below in
    ap (map all) is ∙ map-append all ts (t ∷ []) ∙ (λ d. prefix d ++ last d ∷ [])
    ∙ sym (mapped_more (join_in (parts_of_all entry)) js i j lt e)
