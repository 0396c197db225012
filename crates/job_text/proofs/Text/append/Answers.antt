-- `Text::append` meets its contract: the part is copied behind the text. Assumes nothing.
use mathlib.Core.Path.{refl}
use Prim.Native.Nat.{◌+◌, ◌-◌}
use native.Mathlib.Omega.{arith}
use lib.ListN.{length}
use Rattle.std.proofs.Common.{rules}
use Rattle.std.proofs.lemmas.Slice.{take-put_mid, drop-put_mid}
use Rattle.job_text.proofs.Text.append.Goals as goal

pub returns : goal.returns
returns c = let t = c.args.self.now in
    let part = c.args.part.now in
    let end = t.end + length part in
    record {
      same = refl;
      grown =
          rw c.copy_from_slice.ensures.after
          (record {
            next = refl;
            same_room = search rules;
            holds = take-put_mid t.end (end - t.end) t.bytes.now part end refl (omega (arith, c.requires));
            behind = drop-put_mid t.end (end - t.end) t.bytes.now part end (omega arith) (omega (arith, c.requires)) (omega arith);
          });
    }
