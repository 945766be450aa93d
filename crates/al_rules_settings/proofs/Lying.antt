-- Each fault of a setting lies in the file that the tree was read from.
use Rattle.std.specs.Prelude.{ℕ, Bool, is_none, is_some, List, [], ◌∷◌, ◌++◌, codes, map, Option, Some, None, IfSome}
use Rattle.std.specs.List.{AllByRecursion, flat_map}
use Rattle.al_base.specs.Spans.{LiesIn}
use Rattle.al_base.specs.declared.codes.RuleCode.TheVariants.{AlwaysTrue, PasswordNotExpression, RepeatedId, UnknownMatrixRow}
use Rattle.al_base.specs.declared.codes.RuleCode.TheVariants.{UnknownPermission, UnknownShell, WrongId, WrongMatrix, WrongPermission}
use Rattle.al_base.specs.declared.codes.RuleCode.TheVariants.{WrongVariable}
use Rattle.al_base.specs.NamePlaces.{name_place}
use Rattle.al_base.specs.declared.faults.Span.{Span}
use Rattle.al_rules_formats.specs.Names.{is_id, is_variable}
use Rattle.al_scalar.specs.Scalar.{Scalar, text_of}
use Rattle.al_yaml_tree.specs.Node.{Node, span_of}
use Rattle.al_base.specs.Names.{among}
use Rattle.al_tree.specs.Keys.{key_of}
use Rattle.al_tree.specs.Values.{entries_at, entries_in, items_at, text_in, value_at, value_below}
use Rattle.al_rules_settings.specs.Ids.{ids_faults, repeated_faults}
use Rattle.al_rules_settings.specs.Matrix.{exclude_faults, exclude_keys, is_row_value, matrix_faults, row_faults, shape_faults}
use Rattle.al_rules_settings.specs.Names.{permissions, scope_values}
use Rattle.al_rules_settings.specs.Settings.{all_permissions_faults, condition_faults, credentials_faults, env_faults, is_always_true}
use Rattle.al_rules_settings.specs.Settings.{is_password, is_shell, password_faults, permission_faults, permissions_faults, script_faults}
use Rattle.al_rules_settings.specs.Settings.{permission_value_faults, shell_faults, variable_faults}
use Rattle.al_rules_settings.specs.Words.{Named, of_scalar, unless, unless_among}
use Rattle.al_rules_settings.proofs.Places.{commands_lie}
use Rattle.al_base.proofs.Elements.{each_as, each_of, map_or}
use Rattle.al_tree.proofs.Kept.{Pair, below_kept, entries_in_kept, entries_kept, items_kept, text_in_kept, value_kept}
use Rattle.al_rules_settings.proofs.Inside.{Are, Fine, Lies, NameLies, Text, both, laid, one_lies, or_lies, span_lies, unless_lies}

module _ (size : ℕ) where
  -- ---- ids

  repeated_lie : (seen : List (List ℕ)) (ns : List Named) → AllByRecursion (NameLies size) ns → Are size (repeated_faults seen ns)
  repeated_lie seen [] h = tt
  repeated_lie seen (n ∷ ns) h =
      both size (unless (is_none (name_place seen n.text)) RepeatedId n) (repeated_faults (seen ++ n.text ∷ []) ns)
      (unless_lies size (is_none (name_place seen n.text)) RepeatedId n h.0) (repeated_lie (seen ++ n.text ∷ []) ns h.1)

  pub ids_lie : (ids : List Named) → AllByRecursion (NameLies size) ids → Are size (ids_faults ids)
  ids_lie ids h =
      let wrong = each_of (NameLies size) (Lies size) (λ n. unless (is_id n.text) WrongId n) (λ n p. unless_lies size (is_id n.text) WrongId n p) ids h in
      search (both size, wrong, repeated_lie)

  -- ---- matrices

  shape_lies : (right : Bool) (at : Span) (name : List ℕ) → LiesIn size at → Are size (shape_faults right at name)
  shape_lies right at name p = or_lies size right [] _ tt (one_lies size WrongMatrix at (name ∷ []) p)

  row_lies : (m : Scalar × Node) → Pair (Fine size) m → Are size (row_faults m)
  row_lies m p = shape_lies (is_row_value (key_of m) m.1) (span_of m.1) (key_of m) (span_lies size m.1 p.1)

  exclude_place : (items : List Node) → AllByRecursion (Fine size) items → AllByRecursion (NameLies size) (exclude_keys items)
  exclude_place items h =
      each_of (Fine size) (NameLies size) (λ item. map (λ m. of_scalar m.0) (entries_in item))
      (λ item f. each_as (Pair (Fine size)) (NameLies size) (λ m. of_scalar m.0) (λ m q. q.0.0) (entries_in item) (entries_in_kept (laid size) item f)) items h

  excludes_lie : (place : List ℕ → Option ℕ) (names : List Named) → AllByRecursion (NameLies size) names
      → Are size (flat_map (exclude_faults place) names)
  excludes_lie place names h =
      each_of (NameLies size) (Lies size) (exclude_faults place) (λ n p. unless_lies size (is_some (place n.text)) UnknownMatrixRow n p) names h

  pub matrix_lies : (n : Node) → Fine size n → Are size (matrix_faults n)
  matrix_lies n f =
      let rows = each_of (Pair (Fine size)) (Lies size) row_faults row_lies (entries_in n) (entries_in_kept (laid size) n f) in
      let keys = exclude_place (items_at (codes "exclude") n) (items_kept (laid size) (codes "exclude") n f) in
      search (or_lies size, both size, rows, excludes_lie, keys, shape_lies, span_lies size) depth 7

  -- ---- settings

  pub shell_lies : (o : Option Scalar) → IfSome o (Text size) → Are size (shell_faults o)
  shell_lies o h = map_or (Text size) (Lies size) (λ s. unless (is_shell (of_scalar s).text) UnknownShell (of_scalar s))
      (λ s t. unless_lies size (is_shell (text_of s)) UnknownShell (of_scalar s) t.place) o h

  value_lies : (values : List (List ℕ)) (n : Node) → Fine size n → Are size (permission_value_faults values n)
  value_lies values n f =
      map_or (Text size) (Lies size) (λ s. unless_among WrongPermission values (of_scalar s))
      (λ s t. unless_lies size (among values (text_of s)) WrongPermission (of_scalar s) t.place) (text_in n) (text_in_kept (laid size) n f)

  permission_lies : (m : Scalar × Node) → Pair (Fine size) m → Are size (permission_faults m)
  permission_lies m p =
      let name = unless_lies size (among permissions (key_of m)) UnknownPermission (of_scalar m.0) p.0.0 in
      search (both size, name, value_lies scope_values m.1 p.1)

  all_permissions_lie : (n : Node) → Fine size n → Are size (all_permissions_faults n)
  all_permissions_lie n f = search (both size, value_lies, each_of (Pair (Fine size)) (Lies size) permission_faults permission_lies, entries_in_kept (laid size))

  pub permissions_lie : (n : Node) → Fine size n → Are size (permissions_faults n)
  permissions_lie n f = map_or (Fine size) (Lies size) all_permissions_faults all_permissions_lie (value_at (codes "permissions") n) (value_kept (laid size) (codes "permissions") n f)

  pub env_lies : (n : Node) → Fine size n → Are size (env_faults n)
  env_lies n f =
      each_of (Pair (Fine size)) (Lies size) variable_faults (λ m p. unless_lies size (is_variable (key_of m)) WrongVariable (of_scalar m.0) p.0.0)
      (entries_at (codes "env") n) (entries_kept (laid size) (codes "env") n f)

  password_lies : (n : Node) → Fine size n → Are size (password_faults n)
  password_lies n f = or_lies size (is_password n) [] _ tt (one_lies size PasswordNotExpression (span_of n) [] (span_lies size n f))

  pub credentials_lie : (n : Node) → Fine size n → Are size (credentials_faults n)
  credentials_lie n f =
      map_or (Fine size) (Lies size) password_faults password_lies (value_below (codes "credentials" ∷ codes "password" ∷ []) n)
      (below_kept (laid size) (codes "credentials" ∷ codes "password" ∷ []) n f)

  pub script_lies : (o : Option Scalar) → IfSome o (Text size) → Are size (script_faults o)
  script_lies None h = tt
  script_lies (Some s) h = commands_lie size s h

  pub condition_lies : (o : Option Scalar) → IfSome o (Text size) → Are size (condition_faults o)
  condition_lies None h = tt
  condition_lies (Some s) h = or_lies size (is_always_true (text_of s)) _ [] (one_lies size AlwaysTrue s.span [] h.place) tt
