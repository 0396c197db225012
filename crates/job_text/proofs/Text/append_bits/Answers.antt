-- `Text::append_bits` meets its contract: the digits of the bits are put behind the text. Assumes nothing.
use Rattle.job_text.specs.Text.{bits}
use Rattle.job_text.proofs.Text.append_bits.Goals as goal

pub returns : goal.returns
unfolding bits
returns c = rw (c.spell.ensures, c.bits_of.ensures) at c.append.ensures
