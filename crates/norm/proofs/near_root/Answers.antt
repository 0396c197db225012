-- `norm::near_root` meets its contract (`Rounding.antt`). Assumes nothing.
use Rattle.norm.proofs.Rounding.{rounded}
use Rattle.norm.proofs.near_root.Goals as goal

pub returns : goal.returns
returns c = rounded c.requires.0 c.requires.1 c.floor_root-root.ensures
