-- Filter patterns that were worked out by hand.
use Rattle.std.specs.Prelude.{ℕ, List, [], ◌∷◌, ◌++◌, codes}
use Rattle.al_base.specs.Ascii.{ascii}

abbrev pub e_acute : ℕ
e_acute = 233

abbrev pub a_grave : ℕ
a_grave = 224

-- no filters of branches and tags
abbrev pub wrong_names : List (List ℕ)
wrong_names =
    [] ∷ (codes "+a") ∷ (codes "?") ∷ (codes "[]") ∷ (codes "[a") ∷ (codes "[a-]+.**[ ]?")
    ∷ (codes "[a-]-+?*:")
    ∷ (codes "[a-]z*-feat/**~") ∷ (codes "[z-a]") ∷ (codes "[z-a]+") ∷ (codes "[{")
    ∷ (codes "[" ++ e_acute ∷ codes "-" ++ a_grave ∷ codes "]") ∷ (codes "\\")
    ∷ (codes "\\ \\*[ ]bfeat/**[a\\]") ∷ (codes "\\^[][a-].?")
    ∷ (codes "a b") ∷ (codes "a:b") ∷ (codes "a^") ∷ (codes "a~") ∷ []

-- filters of branches and tags
abbrev pub right_names : List (List ℕ)
right_names =
    (codes "!") ∷ (codes "!!a") ∷ (codes "!.") ∷ (codes "!./a") ∷ (codes "!?") ∷ (codes "!a")
    ∷ (codes "*") ∷ (codes "**")
    ∷ (codes "**/x") ∷ (codes "**feat/**") ∷ (codes "-.a") ∷ (codes ".") ∷ (codes "..")
    ∷ (codes "./") ∷ (codes ".//a") ∷ (codes "./a")
    ∷ (codes "/") ∷ (codes "[!a]") ∷ (codes "[--a]") ∷ (codes "[-a]") ∷ (codes "[0-9]")
    ∷ (codes "[?]+") ∷ (codes "[[]")
    ∷ (codes "[\\]]") ∷ (codes "[a-]") ∷ (codes "[a-b-c]") ∷ (codes "[a-z0-9]+") ∷ (codes "[a-z]")
    ∷ (codes "[" ++ a_grave ∷ codes "-" ++ e_acute ∷ codes "]") ∷ (codes "\\\\?") ∷ (codes "\\a")
    ∷ (codes "a") ∷ (codes "a**?") ∷ (codes "a+?") ∷ (codes "a?") ∷ (codes "a[?]b") ∷ (codes "a]")
    ∷ (codes "v[0-9].*") ∷ (codes "x[a-c]?+") ∷ (e_acute ∷ []) ∷ (e_acute ∷ codes "?") ∷ []

-- no filters of paths
abbrev pub wrong_paths : List (List ℕ)
wrong_paths =
    [] ∷ (codes "!./a") ∷ (codes "+") ∷ (codes "+a") ∷ (codes "./") ∷ (codes ".//a") ∷ (codes "./a")
    ∷ (codes "?") ∷ (codes "? [" ++ a_grave ∷ codes "-" ++ e_acute ∷ codes "]-") ∷ (codes "[]")
    ∷ (codes "[][]\\ ") ∷ (codes "[a") ∷ (codes "[z-a]") ∷ (codes "[z-a]]") ∷ (codes "[z-a]z")
    ∷ (codes "[" ++ e_acute ∷ codes "-" ++ a_grave ∷ codes "]")
    ∷ (codes "[" ++ e_acute ∷ codes "-" ++ a_grave ∷ codes "]z[-a]")
    ∷ (codes "\\") ∷ (codes "\\ b:-[]") ∷ (codes "a[z-a]./") ∷ (codes "b[]" ++ e_acute
    ∷ ascii "\\" ∷ codes "[a-][a-z]") ∷ (codes "b\\ [][]") ∷ []

-- filters of paths
abbrev pub right_paths : List (List ℕ)
right_paths =
    (codes "!") ∷ (codes "!!a") ∷ (codes "!.") ∷ (codes "!?") ∷ (codes "!a") ∷ (codes "*")
    ∷ (codes "**") ∷ (codes "**/x")
    ∷ (codes "*feat/**") ∷ (codes ".") ∷ (codes "..") ∷ (codes ".\\ ") ∷ (codes "/")
    ∷ (codes "/[" ++ a_grave ∷ codes "-" ++ e_acute ∷ codes "]\\*")
    ∷ (codes ":[" ++ a_grave ∷ codes "-" ++ e_acute ∷ codes "]") ∷ (codes "[!?[!a].{")
    ∷ (codes "[!a]") ∷ (codes "[!a][!a]")
    ∷ (codes "[!a]\\*^[ ]") ∷ (codes "[--a]") ∷ (codes "[-a]") ∷ (codes "[0-9]\\ ]")
    ∷ (codes "[0-9]~") ∷ (codes "[?]+") ∷ (codes "[[]")
    ∷ (codes "[[" ++ a_grave ∷ codes "-" ++ e_acute ∷ codes "]")
    ∷ (codes "[[" ++ a_grave ∷ codes "-" ++ e_acute ∷ codes "]/[a-]") ∷ (codes "[\\]]")
    ∷ (codes "[a-]")
    ∷ (codes "[a-]~") ∷ (codes "[a-b-c]") ∷ (codes "[a-c-e]") ∷ (codes "[a-z0-9]+")
    ∷ (codes "[a-z]") ∷ (codes "[a-z]./")
    ∷ (codes "[" ++ a_grave ∷ codes "-" ++ e_acute ∷ codes "]")
    ∷ (codes "[" ++ a_grave ∷ codes "-" ++ e_acute ∷ codes "]+b~")
    ∷ (codes "[" ++ a_grave ∷ codes "-" ++ e_acute ∷ codes "].") ∷ (codes "\\ ") ∷ (codes "\\\\?")
    ∷ (codes "\\a") ∷ (codes "]") ∷ (codes "^[-a]") ∷ (codes "^a[a-z][0-9]") ∷ (codes "a")
    ∷ (codes "a b") ∷ (codes "a**?")
    ∷ (codes "a+?") ∷ (codes "a:b") ∷ (codes "a?") ∷ (codes "a[?]b") ∷ (codes "a]") ∷ (codes "a^")
    ∷ (codes "a~") ∷ (codes "v[0-9].*")
    ∷ (codes "x[a-c]?+") ∷ (e_acute ∷ []) ∷ (e_acute ∷ codes "?") ∷ []
