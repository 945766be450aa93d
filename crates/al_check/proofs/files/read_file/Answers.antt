use Rattle.std.proofs.Common.{◌++◌, ◌∙◌, ap, ◌≡◌, length, sym, subst}
use Rattle.std.specs.List.{flat_map}
use Rattle.std.specs.Prelude.{Ok}
use Rattle.al_base.proofs.Growing.{same_set}
use Rattle.al_base.proofs.Sets.{set_more, set_trans}
use Rattle.al_base.specs.Growth.{SameSet}
use Rattle.al_base.specs.Limits.{largest_file}
use Rattle.al_tree.specs.Faults.{root_faults}
use Rattle.al_tree.specs.Files.{kind_in, root_of, shape_of}
use Rattle.al_yaml_tree.proofs.LaidLemmas.{laid-wider}
use Rattle.al_yaml_tree.specs.Document.{tree_of}
use Rattle.al_yaml_tree.specs.Spans.{IsLaid}
use Rattle.al_yaml_tree.specs.Texts.{HasTexts}
use Rattle.al_yaml_tree.specs.View.{view}
use Rattle.al_check_interfaces.specs.Uses.{calls_in, wrong_uses}
use Rattle.al_check.specs.FileFaults.{own_faults}
use Rattle.al_rules.specs.Rules.{rule_faults}
use Rattle.al_check.proofs.files.read_file.Goals as goal

pub returns : goal.returns
returns c =
    let bytes = c.args.source.bytes.now in
    let tree = c.in_ok-tree.tree in
    let kind = kind_in tree in
    let root = root_of tree in
    let doc = view c.in-Ok.doc.root in
    let same : doc ≡ root = sym c.in_ok-tree.ensures.root in
    let keys = c.in_ok-tree.ensures.faults ∙ ap (λ k. root_faults (shape_of k) doc) (sym c.in_ok-tree.ensures.kind) ∙ ap (root_faults (shape_of kind)) same in
    record {
      given = record {
        kind_is = c.in_ok-tree.ensures.kind;
        root_is = subst (λ n. tree_of bytes ≡ Ok n) same (rw c.in-Ok.is at c.in_ok-doc.ensures.tree);
        laid = subst (IsLaid largest_file) same (laid-wider (length bytes) (length bytes) largest_file largest_file c.requires c.requires doc (rw c.in-Ok.is at c.in_ok-doc.ensures.laid));
        texts = subst HasTexts same (rw c.in-Ok.is at c.in_ok-doc.ensures.texts);
      };
      own = set_trans c.document_calls.new.own.items (c.rules.new.out.items ++ flat_map wrong_uses (calls_in kind root)) (own_faults kind root) (same_set _ _ c.in_ok-calls.ensures.own)
          (set_more c.rules.new.out.items (root_faults (shape_of kind) root ++ rule_faults kind root) (flat_map wrong_uses (calls_in kind root))
          (subst (λ list. SameSet c.rules.new.out.items (list ++ rule_faults kind root)) keys c.in_ok-rules.ensures.rules));
      calls = c.in_ok-calls.ensures.calls;
    }
