-- Examples of the queue's rules and of what its buffers mean, computed.
use Rattle.std.specs.Prelude.{◌≡◌, refl, true, false, [], ◌∷◌, map, ℕ, Float}
use Rattle.std.specs.Float.{nan, inf}
use Rattle.std.specs.Float.Ieee.{of_bits, mul, le, lt}
use Rattle.numbers.specs.Numbers.{f64, +0, one}
use Rattle.numbers.specs.Choice.{if◌then◌otherwise◌}
use Rattle.refusals.specs.declared.Settings.{Settings}
use Rattle.refusals.specs.Usual.{usual}
use Rattle.queue.specs.Waiting.{out, waits, answer, entered, below_threshold, already_in, offered, best, nobody, better, best_from, next, adapted}
use Rattle.heap.specs.Entries.{entries}
use Rattle.queue.specs.Heap.{filled, waiting}

quarter : Float
quarter = f64 0x3fd0_0000_0000_0000

half : Float
half = f64 0x3fe0_0000_0000_0000

two : Float
two = f64 0x4000_0000_0000_0000

-- the largest finite number
largest : Float
largest = f64 0x7fef_ffff_ffff_ffff

-0 : Float
-0 = f64 0x8000_0000_0000_0000

-- a priority at the threshold enters, one below it and a NaN do not, and a node that waits is told so only where its priority reaches the threshold
enters : answer half half out ≡ entered
unfolding answer if◌then◌otherwise◌ half of_bits le
enters = refl

too_low : answer one half (waits one) ≡ below_threshold
unfolding answer if◌then◌otherwise◌ half of_bits le
too_low = refl

no_number : answer half nan out ≡ below_threshold
unfolding answer if◌then◌otherwise◌ half of_bits le
no_number = refl

-- nothing reaches a threshold that is a NaN, and a zero of either sign reaches one that is a zero of either sign
no_threshold : answer nan one out ∷ answer nan (inf false) out ∷ [] ≡ below_threshold ∷ below_threshold ∷ []
unfolding answer if◌then◌otherwise◌ of_bits le
no_threshold = refl

zero_threshold : answer -0 +0 out ∷ answer +0 -0 out ∷ [] ≡ entered ∷ entered ∷ []
unfolding answer if◌then◌otherwise◌ -0 of_bits le
zero_threshold = refl

waits_already : answer half one (waits half) ≡ already_in
unfolding answer if◌then◌otherwise◌ half of_bits le
waits_already = refl

-- the priority of a node that waits stays
never_refreshed : offered +0 1 one (out ∷ waits half ∷ []) ≡ out ∷ waits half ∷ []
unfolding offered answer if◌then◌otherwise◌ half of_bits le
never_refreshed = refl

-- of equal priorities the higher node is next, and -0 equals +0
highest : next (waits half ∷ waits one ∷ out ∷ waits one ∷ waits +0 ∷ []) ≡ best 3 one
unfolding next best_from better if◌then◌otherwise◌ half of_bits le
highest = refl

zeros : next (waits +0 ∷ waits -0 ∷ []) ≡ best 1 -0
unfolding next best_from better if◌then◌otherwise◌ -0 of_bits le
zeros = refl

empty : next (out ∷ out ∷ []) ≡ nobody
unfolding next best_from
empty = refl

-- settings with the usual adaptive numbers
by_default : Settings
by_default = usual half half half 10 true

-- a queue of 10,001 raises the threshold, one of 10,000 and one of 100 leave it, one of 99 lowers it, and none is lowered from 1e-12
raised : adapted by_default 10001 one ≡ f64 0x3ff1_9999_9999_999a
unfolding adapted by_default usual if◌then◌otherwise◌ of_bits lt mul
raised = refl

left_at_upper : adapted by_default 10000 one ≡ one
unfolding adapted by_default usual if◌then◌otherwise◌ of_bits lt
left_at_upper = refl

left_at_lower : adapted by_default 100 one ≡ one
unfolding adapted by_default usual if◌then◌otherwise◌ of_bits lt
left_at_lower = refl

lowered : adapted by_default 99 one ≡ f64 0x3fec_cccc_cccc_cccd
unfolding adapted by_default usual if◌then◌otherwise◌ of_bits lt mul
lowered = refl

floored : adapted by_default 0 (f64 0x3d71_9799_812d_ea11) ≡ f64 0x3d71_9799_812d_ea11
unfolding adapted by_default usual if◌then◌otherwise◌ of_bits lt
floored = refl

-- settings by other sizes, factors and floor
by_others : ℕ → ℕ → Float → Float → Float → Settings
by_others upper lower raising lowering floor =
    record {
      alpha = half;
      epsilon = half;
      queue_threshold = half;
      max_pushes = 10;
      adaptive_threshold = true;
      adaptive_step = 1;
      upper_size = upper;
      lower_size = lower;
      raising_factor = raising;
      lowering_factor = lowering;
      threshold_floor = floor;
    }

-- upper size 3, lower size 2, factors 2 and 1/2, floor 0: above 3 the threshold 1 becomes 2, at 3 and at 2 it stays, below 2 it becomes 1/2
by_sizes : map (λ (size : ℕ). adapted (by_others 3 2 two half +0) size one) (4 ∷ 3 ∷ 2 ∷ 1 ∷ []) ≡ two ∷ one ∷ one ∷ half ∷ []
unfolding adapted by_others if◌then◌otherwise◌ half two of_bits lt mul
by_sizes = refl

-- both sizes 2: only 2 leaves it, and with both 0 only the empty queue
by_equal_sizes : map (λ (size : ℕ). adapted (by_others 2 2 two half +0) size one) (3 ∷ 2 ∷ 1 ∷ []) ≡ two ∷ one ∷ half ∷ []
unfolding adapted by_others if◌then◌otherwise◌ half two of_bits lt mul
by_equal_sizes = refl

by_sizes_zero : map (λ (size : ℕ). adapted (by_others 0 0 two half +0) size one) (1 ∷ 0 ∷ []) ≡ two ∷ one ∷ []
unfolding adapted by_others if◌then◌otherwise◌ half two of_bits lt mul
by_sizes_zero = refl

-- it falls if it is above the floor, even to below it: from 1 with the floor 1/2 it becomes 1/4, and with a floor of 1 or 2 it stays
by_floor : map (λ (floor : Float). adapted (by_others 3 2 two quarter floor) 0 one) (+0 ∷ half ∷ one ∷ two ∷ []) ≡ quarter ∷ quarter ∷ one ∷ one ∷ []
unfolding adapted by_others if◌then◌otherwise◌ half quarter two of_bits lt mul
by_floor = refl

-- a factor may leave it 0 or -0, and what is 0 stays
to_zero : adapted (by_others 3 2 +0 half +0) 4 one ∷ adapted (by_others 3 2 two +0 +0) 1 one ∷ adapted (by_others 3 2 -0 half +0) 4 one ∷ adapted (by_others 3 2 two half +0) 4 +0 ∷ adapted (by_others 3 2 two half +0) 1 +0 ∷ []
    ≡ +0 ∷ +0 ∷ -0 ∷ +0 ∷ +0 ∷ []
unfolding adapted by_others if◌then◌otherwise◌ -0 half two of_bits lt mul
to_zero = refl

-- it may become infinite, which a half of it still is; and infinity times 0 is a NaN, which stays one
to_infinity : adapted (by_others 3 2 largest half +0) 4 largest ∷ adapted (by_others 3 2 two half +0) 1 (inf false) ∷ [] ≡ inf false ∷ inf false ∷ []
unfolding adapted by_others if◌then◌otherwise◌ half two largest of_bits lt mul
to_infinity = refl

to_no_number : adapted (by_others 3 2 +0 half +0) 4 (inf false) ∷ adapted (by_others 3 2 two +0 +0) 1 (inf false) ∷ adapted (by_others 3 2 two half +0) 4 nan ∷ adapted (by_others 3 2 two half +0) 1 nan ∷ []
    ≡ nan ∷ nan ∷ nan ∷ nan ∷ []
unfolding adapted by_others if◌then◌otherwise◌ half two of_bits lt mul
to_no_number = refl

-- of three places the first two hold an entry: the nodes 2 and 0 wait, each at its priority, and what stands in the third says nothing
two_wait : waiting 2 (one ∷ half ∷ +0 ∷ []) (2 ∷ 0 ∷ 1 ∷ []) ≡ waits half ∷ out ∷ waits one ∷ []
unfolding waiting filled
two_wait = refl

-- of two entries of one node the later stands
later_stands : filled 2 (entries (one ∷ half ∷ []) (1 ∷ 1 ∷ [])) 2 ≡ out ∷ waits half ∷ []
unfolding filled
later_stands = refl
