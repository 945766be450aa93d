-- The rows of the table of fault codes, as the code has them.
use Rattle.std.specs.Prelude.{◌≡◌}
use Rattle.al_text.specs.Wordings.{code_row}
use Rattle.al_base.specs.declared.codes.Code.{Code}
use Rattle.al_text.specs.declared.wordings.CodeRow.{CodeRow}

-- the row of a code: its kind, and the words of its message
pub record IsRowOf (code : Code) (row : CodeRow) : Type 0 where
  pub kind : row.kind.now ≡ (code_row code).kind
  pub head : row.head.now ≡ (code_row code).head
  pub middle : row.middle.now ≡ (code_row code).middle
  pub tail : row.tail.now ≡ (code_row code).tail
