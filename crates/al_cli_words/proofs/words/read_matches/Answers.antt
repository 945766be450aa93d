use Rattle.std.proofs.Common.{◌≡◌, ◌∙◌, List, [], Option, None, Some, ap, codes, map, option_map, refl, rules}
use Rattle.std.proofs.lemmas.Grind.{common_steps}
use Rattle.std.specs.Borrow.{Bor}
use Rattle.std.specs.Prelude.{unwrap_or}
use Rattle.clap.specs.Words.{Text, found_of, matched_of, raw_values, rows_of}
use Rattle.clap.proofs.WalkLemmas.{first_value-rows, raw_values-rows}
use Rattle.clap.specs.declared.parser.matches.Found.{Found}
use Rattle.al_cli_words.specs.Words.{files_in}
use Rattle.al_cli_words.proofs.words.read_matches.Goals as goal

abbrev texts : List (Bor Text) → List Text
texts files = map (λ file. file.now) files

-- the files that were matched, if there are any
files_there : (found : Found) (files : Option (Bor (List (Bor Text)))) (none : Bor (List (Bor Text))) (kept : List (Bor Text))
    → option_map (λ fs. texts fs.now) files ≡ option_map raw_values (matched_of found (codes "file")) → none.now ≡ []
    → kept ≡ (unwrap_or files none).now → texts kept ≡ files_in (rows_of found)
files_there found files none kept are no_files is =
    ap texts is ∙ by files ∙ ap (λ fs. unwrap_or fs []) (are ∙ raw_values-rows found (codes "file"))
  where
    by : (fs : Option (Bor (List (Bor Text)))) → texts (unwrap_or fs none).now ≡ unwrap_or (option_map (λ fs. texts fs.now) fs) []
    by None = ap texts no_files
    by (Some fs) = refl

pub returns-then-not-is_empty-clause-usage : goal.returns-then-not-is_empty-clause-usage
returns-then-not-is_empty-clause-usage c =
    let files = files_there (found_of c.args.matches.now) c.get_strs.result _ c.in-Ok.files.items c.get_strs.ensures refl
    (c.in-Ok.ensures.items ∙ ap (λ (b : Bor (List (Bor Text))). b.now) c.unwrap_or-files.ensures) in
    let root = c.get_str-root.ensures ∙ first_value-rows (found_of c.args.matches.now) (codes "root") in
    search (rules, common_steps)

pub returns-clause-words : goal.returns-clause-words
returns-clause-words c =
    let files = files_there (found_of c.args.matches.now) c.get_strs.result _ c.in-Ok.files.items c.get_strs.ensures refl
    (c.in-Ok.ensures.items ∙ ap (λ (b : Bor (List (Bor Text))). b.now) c.unwrap_or-files.ensures) in
    let root = c.get_str-root.ensures ∙ first_value-rows (found_of c.args.matches.now) (codes "root") in
    search (rules, common_steps)
