-- `norm::whole_root` meets its contract: each turn of its loop is one of `Digits.antt`. Assumes nothing.
use Rattle.norm.proofs.Digits.{BroughtDown}
use Rattle.norm.proofs.whole_root.Given as goal

abbrev pub invariant-loop : goal.invariant-loop
invariant-loop l = BroughtDown l.s l.counter l.below l.part.root l.part.rest
