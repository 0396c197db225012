-- The settings that a solve has where nobody chose other adaptive numbers. Assumes nothing.
use Rattle.std.specs.Prelude.{ℕ, Bool, Float}
use Rattle.numbers.specs.Numbers.{f64}
use Rattle.refusals.specs.declared.Settings.{Settings}

-- by alpha, epsilon, queue threshold, limit of pushes and whether the threshold adapts. Each factor and the floor is the double nearest to what the comment says
unfoldable pub usual : Float → Float → Float → ℕ → Bool → Settings
usual alpha epsilon threshold max adaptive =
    record {
      alpha = alpha;
      epsilon = epsilon;
      queue_threshold = threshold;
      max_pushes = max;
      adaptive_threshold = adaptive;
      adaptive_step = 1000;
      upper_size = 10000;
      lower_size = 100;
      raising_factor = f64 0x3ff1_9999_9999_999a;  -- 1.1
      lowering_factor = f64 0x3fec_cccc_cccc_cccd;  -- 0.9
      threshold_floor = f64 0x3d71_9799_812d_ea11;  -- 1e-12
    }
