use Rattle.al_laws.proofs.ChunkBounds.{any-chunks}
use Rattle.al_laws.proofs.PlaceholderBounds.{any-use}
use Rattle.al_laws.proofs.TokenBounds.{any-tokens}
use Rattle.al_laws.proofs.expressions.expression_bounds.Goals as goal

pub returns : goal.returns
returns c = record { tokens = any-tokens; chunks = any-chunks; placeholders = any-use }
