-- What holds of bytes that have the shape of a job, and that bytes which are too short have it not. Assumes nothing.
use Prim.Native.Nat.{ℕ, ◌+◌, ◌*◌, ◌≤◌, ◌<◌}
use native.Mathlib.Omega.{arith}
use mathlib.Core.Bool.{Bool, true, false, ◌&&◌}
use mathlib.Core.List.{List}
use mathlib.Core.Path.{◌≡◌, refl}
use borrow.Author.Tests.{leb-true, eqb-true}
use lib.Dec.{leb, ltb, eqb}
use lib.ListN.{length}
use Rattle.numbers.proofs.Tests.{both}
use Rattle.job_fields.specs.Fields.{word_at}
use Rattle.job_fields.specs.Shape.{nodes_in, links_in, sources_in, offsets, limits, shaped}

pub record Shape (bytes : List ℕ) : Type 0 where
  pub long : length bytes ≡ 56 + 16 * links_in bytes + 4 * sources_in bytes
  pub few_nodes : nodes_in bytes ≤ 256
  pub few_links : links_in bytes ≤ 1024
  pub few_sources : sources_in bytes ≤ 16

pub shape : (bytes : List ℕ) → shaped bytes ≡ true → Shape bytes
unfolding shaped
shape bytes h =
    let a = both (eqb (length bytes) (56 + 16 * links_in bytes + 4 * sources_in bytes)) (offsets bytes && (limits bytes && ltb (word_at bytes 52) 2)) h in
    let b = both (offsets bytes) (limits bytes && ltb (word_at bytes 52) 2) a.1 in
    let l = both (limits bytes) (ltb (word_at bytes 52) 2) b.1 in
    let m = both (leb (nodes_in bytes) 256) (leb (links_in bytes) 1024 && leb (sources_in bytes) 16) l.0 in
    let k = both (leb (links_in bytes) 1024) (leb (sources_in bytes) 16) m.1 in
    record {
      long = eqb-true _ _ a.0;
      few_nodes = leb-true _ _ m.0;
      few_links = leb-true _ _ k.0;
      few_sources = leb-true _ _ k.1;
    }

-- bytes that are fewer than the header and the settings have
pub too_short : (bytes : List ℕ) → length bytes < 56 → shaped bytes ≡ false
too_short bytes h = go (shaped bytes) refl
  where
    go : (b : Bool) → shaped bytes ≡ b → shaped bytes ≡ false
    go true e = absurd (omega (arith, (shape bytes e).long))
    go false e = e
