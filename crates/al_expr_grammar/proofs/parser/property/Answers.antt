use Rattle.std.proofs.Common.{inl, inr}
use Rattle.al_expr_grammar.proofs.Trees.{step_of-Property, step_of-All}
use Rattle.al_expr_grammar.proofs.Rules.{property_read, keyword_read, all_read}
use Rattle.al_expr_grammar.proofs.parser.property.Goals as goal

pub returns-in-Name : goal.returns-in-Name
returns-in-Name c =
    let w = c.word.ensures in
    elim c.in-Name.is [
      | inl e ↦ rw (c.requires, c.in-Some.ensures, e, step_of-Property, w.text, w.span) (property_read _ _ _ _ _ _)
      | inr e ↦ rw (c.requires, c.in-Some.ensures, e.1, step_of-Property, w.text, w.span) (keyword_read _ _ _ _ _ _ _)
    ]

pub returns-in-Star : goal.returns-in-Star
returns-in-Star c = rw (c.requires, c.in-Some.ensures, c.in-Star.is, step_of-All) (all_read _ _ _ _ _ _)
