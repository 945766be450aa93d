-- The types of nodes that the code has as sequences or mappings, and the matrix with its combinations.
use Rattle.std.proofs.Common.{◌≡◌, ◌<◌, ◌+◌, ℕ, List, [], ◌∷◌, ◌++◌, Bool, Some, None, true, ap, refl, sym, drop, get_or, length, map, take, ◌∙◌}
use Rattle.std.proofs.lemmas.List.{drop_more}
use Rattle.std.specs.Option.{option_map_or}
use Rattle.std.specs.Prelude.{Option, option_map, if◌then◌else◌, unwrap_or}
use Rattle.std.specs.Borrow.{Bor}
use Rattle.al_scalar.specs.Scalar.{Scalar, text_of}
use Rattle.al_tree.specs.Keys.{key_of}
use Rattle.al_tree.specs.Names.{is_combination_key}
use Rattle.al_types.specs.FusedFields.{are_distinct}
use Rattle.al_types.specs.Puts.{TypedName, firsts, put_or_fuse, put_all, put_new}
use Rattle.al_types.specs.Types.{Optional, Present, fuse_optional}
use Rattle.al_types.proofs.GatheredFields.{firsts_distinct}
use Rattle.al_yaml_tree.specs.Access.{mapping_in}
use Rattle.al_yaml_tree.specs.Node.{Node}
use Rattle.al_yaml_tree.specs.View.{entries_of, entry_view, nodes_of, view}
use Rattle.al_yaml_tree.specs.declared.node.Entry as code_entry
use Rattle.al_yaml_tree.proofs.ViewLemmas.{entry_parts}
use Rattle.al_check_objects.specs.Matrix.{combination, fields_of, include_all, items_type, node_type, row_field, row_type}
use Rattle.al_check_objects.specs.Objects.{strictly}
use Rattle.al_check_objects.proofs.FieldLists.{put_together}
use Rattle.al_expr_types.proofs.Scans.{mapped_more}

-- ---- combinations

-- the fields of a combination: those of its entries, or none
pub combination_by : (n : Node) (o : Option (Bor (List code_entry.Entry))) (empty : Bor (List code_entry.Entry)) → empty.now ≡ [] →
    option_map (λ es. map entry_view es.now) o ≡ mapping_in n → firsts (fields_of (entries_of (map entry_view (unwrap_or o empty).now))) ≡ combination n
combination_by n None empty none is =
    ap (λ es. firsts (fields_of (entries_of (map entry_view es)))) none ∙ ap (λ m. option_map_or (λ es. firsts (fields_of (entries_of es))) m []) is
combination_by n (Some es) empty none is = ap (λ m. option_map_or (λ es. firsts (fields_of (entries_of es))) m []) is

distinct_fields : (o : Option (List (Scalar × Node))) → are_distinct (option_map_or (λ es. firsts (fields_of (entries_of es))) o []) ≡ true
distinct_fields None = refl
distinct_fields (Some es) = firsts_distinct (fields_of (entries_of es))

-- one more combination
include_more : (ts : List TypedName) (ns : List Node) (n : Node) → include_all ts (ns ++ n ∷ []) ≡ put_all put_or_fuse (include_all ts ns) (combination n)
include_more ts [] n = refl
include_more ts (m ∷ ns) n = include_more (put_all put_or_fuse ts (combination m)) ns n

-- fusing the type of the next combination with the type so far
pub include_next : {X : Type 0} (g : X → Node) (ts : List TypedName) (xs : List X) (i : ℕ) (x : X) (sofar new : Optional) → i < length xs → x ≡ get_or xs i x →
    sofar ≡ Present (strictly (include_all ts (map g (take i xs)))) → new ≡ fuse_optional sofar (Present (strictly (combination (g x)))) →
    new ≡ Present (strictly (include_all ts (map g (take (i + 1) xs))))
include_next g ts xs i x sofar new lt e old step =
    let prefix = map g (take i xs) in
    step ∙ ap (λ o. fuse_optional o (Present (strictly (combination (g x))))) old
    ∙ ap Present (sym (put_together (include_all ts prefix) (combination (g x)) (distinct_fields (mapping_in (g x)))))
    ∙ ap (λ us. Present (strictly us)) (sym (include_more ts prefix (g x)))
    ∙ ap (λ ns. Present (strictly (include_all ts ns)))
    (sym (mapped_more g xs i x lt e))

-- ---- the common type of items

-- one more item
pub items_next : {X : Type 0} (g : X → Node) (xs : List X) (i : ℕ) (x : X) (sofar new : Optional) → i < length xs → x ≡ get_or xs i x →
    new ≡ fuse_optional sofar (Present (node_type (g x))) →
    items_type new (nodes_of (map g (drop (i + 1) xs))) ≡ items_type sofar (nodes_of (map g (drop i xs)))
items_next g xs i x sofar new lt e step =
    ap (λ o. items_type o (nodes_of (map g (drop (i + 1) xs)))) step
    ∙ ap (λ ys. items_type sofar (nodes_of (map g ys))) (ap (λ y. y ∷ drop (i + 1) xs) e ∙ sym (drop_more xs i x lt))

-- ---- the fields of entries, with one more entry

pub entries_next : (es : List code_entry.Entry) (i : ℕ) (x : code_entry.Entry) (ts us : List TypedName) → i < length es → x ≡ get_or es i x →
    us ≡ put_new ts (text_of x.key, node_type (view x.value)) →
    put_all put_new us (fields_of (entries_of (map entry_view (drop (i + 1) es)))) ≡ put_all put_new ts (fields_of (entries_of (map entry_view (drop i es))))
entries_next es i x ts us lt e is =
    let rest = map entry_view (drop (i + 1) es) in
    ap (λ vs. put_all put_new vs (fields_of (entries_of rest))) is
    ∙ ap (λ p. put_all put_new ts (fields_of (entries_of (p ∷ rest)))) (sym (entry_parts x))
    ∙ ap (λ ys. put_all put_new ts (fields_of (entries_of (map entry_view ys)))) (ap (λ y. y ∷ drop (i + 1) es) e ∙ sym (drop_more es i x lt))

-- ---- whether an entry is a row

pub row_by : (e : Scalar × Node) (b : Bool) → is_combination_key (key_of e) ≡ b → row_field e ≡ (if b then None else Some (key_of e, row_type e.1))
row_by e b is = ap (λ b. if b then None else Some (key_of e, row_type e.1)) is
