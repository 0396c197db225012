-- `norm::root_of` meets its contract (`Scale.antt`). Assumes nothing.
use Rattle.norm.proofs.Scale.{pattern}
use Rattle.norm.proofs.root_of.Goals as goal

pub returns : goal.returns
returns c = pattern c.requires.2 c.normalized-n.ensures c.evened-e.ensures c.near_root-q.ensures
