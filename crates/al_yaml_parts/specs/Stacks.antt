-- A stack of open collections as two lists, the innermost first: flow collections are inside block
-- collections.
use Rattle.std.specs.Prelude.{◌≡◌, ℕ, ◌+◌, ◌<◌, List, [], length}
use Rattle.al_base.specs.Limits.{deepest_collection}
use Rattle.al_yaml_parts.specs.declared.frames.BlockFrame.{BlockFrame}
use Rattle.al_yaml_parts.specs.declared.frames.FlowFrame.{FlowFrame}

pub record OpenCollections : Type 0 where
  pub flows : List FlowFrame
  pub blocks : List BlockFrame

-- the depth of a node inside the open block collections; the root's is 1
abbrev pub depth_in : OpenCollections → ℕ
depth_in now = length now.blocks + 1

-- only block collections are open, and one more can be opened
pub record HasRoom (now : OpenCollections) : Type 0 where
  pub outside : now.flows ≡ []
  pub room : length now.blocks < deepest_collection
