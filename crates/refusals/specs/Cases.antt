-- The edges that the table of refusals names, computed. Assumes nothing.
use Rattle.std.specs.Prelude.{ℕ, Bool, true, false, List, [], ◌∷◌, map, ◌≡◌, refl, length, Float}
use Rattle.std.specs.Float.{nan, inf}
use Rattle.std.specs.Float.Ieee.{of_bits, lt, le}
use Rattle.numbers.specs.Numbers.{f64, +0, one}
use Rattle.numbers.specs.Tables.{any}
use Rattle.refusals.specs.declared.Settings.{Settings}
use Rattle.refusals.specs.Usual.{usual}
use Rattle.refusals.specs.Refusals.{◌or◌, ◌when◌, lengths_differ, falls, refuse_nodes, refuse_links, refuse_listed, refuse_lengths, refuse_rows, refuse_weights, refuse_alpha, refuse_adaptive, refuse_settings, refuse_precision, link_tests, row_tests, heaviest}

-- two numbers that the edges share
-0 : Float
-0 = f64 0x8000_0000_0000_0000

-1 : Float
-1 = f64 0xbff0_0000_0000_0000

-- settings by their alpha, epsilon, queue threshold and limit of pushes
set : Float → Float → Float → ℕ → Settings
set a e q k = usual a e q k false

-- settings by whether they are adaptive, and by their six adaptive numbers: step, upper and lower size, raising and lowering factor, floor
adapting : Bool → ℕ → ℕ → ℕ → Float → Float → Float → Settings
adapting adaptive step upper lower raising lowering floor =
    record {
      alpha = one;
      epsilon = +0;
      queue_threshold = +0;
      max_pushes = 0;
      adaptive_threshold = adaptive;
      adaptive_step = step;
      upper_size = upper;
      lower_size = lower;
      raising_factor = raising;
      lowering_factor = lowering;
      threshold_floor = floor;
    }

-- 65,536 nodes pass, 65,537 give 1
node_edge : map refuse_nodes (65536 ∷ 65537 ∷ []) ≡ 0 ∷ 1 ∷ []
unfolding refuse_nodes ◌when◌
node_edge = refl

-- 1,048,576 links pass, one more gives 2; and 65,536 sources or targets pass, one more gives 2
link_edge : map refuse_links (1048576 ∷ 1048577 ∷ []) ≡ 0 ∷ 2 ∷ []
unfolding refuse_links ◌when◌
link_edge = refl

listed_edge : map refuse_listed (65536 ∷ 65537 ∷ []) ≡ 0 ∷ 2 ∷ []
unfolding refuse_listed ◌when◌
listed_edge = refl

-- for two nodes: of the first four each breaks one rule alone, as it falls, does not begin at 0, does not end at the link count, has a column 2; the last is sound
row_edge : map (λ (c : List ℕ × List ℕ). refuse_rows 2 c.0 c.1)
    ((0 ∷ 2 ∷ 1 ∷ [], 1 ∷ [])
    ∷ (1 ∷ 1 ∷ 2 ∷ [], 1 ∷ 0 ∷ [])
    ∷ (0 ∷ 1 ∷ 1 ∷ [], 1 ∷ 0 ∷ [])
    ∷ (0 ∷ 1 ∷ 2 ∷ [], 1 ∷ 2 ∷ [])
    ∷ (0 ∷ 1 ∷ 2 ∷ [], 1 ∷ 0 ∷ [])
    ∷ [])
    ≡ 4 ∷ 4 ∷ 4 ∷ 4 ∷ 0 ∷ []
unfolding refuse_rows falls any ◌when◌
row_edge = refl

-- weights: 0, -0 and 1,048,576 pass; the next up, -1, NaN and both infinities give 5
weight_edge : map (λ (w : Float). refuse_weights (w ∷ []))
    (+0 ∷ -0 ∷ heaviest ∷ f64 0x4130_0000_0000_0001 ∷ -1 ∷ nan ∷ inf false ∷ inf true ∷ []) ≡ 0 ∷ 0 ∷ 0 ∷ 5 ∷ 5 ∷ 5 ∷ 5 ∷ 5 ∷ []
unfolding refuse_weights any ◌when◌ le of_bits -0 -1
weight_edge = refl

-- alpha 0, -0 and 1 pass; the number next above 1, the least below zero, -1 and NaN give 6
alpha_edge : map (λ (a : Float). refuse_settings (set a +0 +0 0))
    (+0 ∷ -0 ∷ one ∷ f64 0x3ff0_0000_0000_0001 ∷ f64 0x8000_0000_0000_0001 ∷ -1 ∷ nan ∷ []) ≡ 0 ∷ 0 ∷ 0 ∷ 6 ∷ 6 ∷ 6 ∷ 6 ∷ []
unfolding refuse_settings refuse_alpha refuse_adaptive set usual ◌or◌ ◌when◌ le lt of_bits -0 -1
alpha_edge = refl

-- epsilon 0 and -0 pass; -1, NaN and infinity give 6
epsilon_edge : map (λ (e : Float). refuse_settings (set one e +0 0)) (+0 ∷ -0 ∷ -1 ∷ nan ∷ inf false ∷ []) ≡ 0 ∷ 0 ∷ 6 ∷ 6 ∷ 6 ∷ []
unfolding refuse_settings refuse_alpha refuse_adaptive set usual ◌or◌ ◌when◌ le lt of_bits -0 -1
epsilon_edge = refl

-- and so the queue threshold
threshold_edge : map (λ (q : Float). refuse_settings (set one +0 q 0)) (+0 ∷ -0 ∷ -1 ∷ nan ∷ inf false ∷ []) ≡ 0 ∷ 0 ∷ 6 ∷ 6 ∷ 6 ∷ []
unfolding refuse_settings refuse_alpha refuse_adaptive set usual ◌or◌ ◌when◌ le lt of_bits -0 -1
threshold_edge = refl

-- max_pushes 1,000,000,000 passes, one more gives 6
limit_edge : map (λ (k : ℕ). refuse_settings (set one +0 +0 k)) (1000000000 ∷ 1000000001 ∷ []) ≡ 0 ∷ 6 ∷ []
unfolding refuse_settings refuse_alpha refuse_adaptive set usual ◌or◌ ◌when◌ le lt of_bits
limit_edge = refl

-- the usual adaptive numbers pass
usual_passes : refuse_settings (usual one +0 +0 0 true) ≡ 0
unfolding refuse_settings refuse_alpha refuse_adaptive usual ◌or◌ ◌when◌ le lt of_bits
usual_passes = refl

-- a step of 0 gives 6, and 1 passes. All these numbers are tested whether the threshold adapts or not
step_edge : map (λ (k : ℕ). refuse_settings (adapting true k 2 1 one one one)) (0 ∷ 1 ∷ []) ≡ 6 ∷ 0 ∷ []
unfolding refuse_settings refuse_alpha refuse_adaptive adapting ◌or◌ ◌when◌ le lt of_bits
step_edge = refl

unadapted_step_edge : map (λ (k : ℕ). refuse_settings (adapting false k 2 1 one one one)) (0 ∷ 1 ∷ []) ≡ 6 ∷ 0 ∷ []
unfolding refuse_settings refuse_alpha refuse_adaptive adapting ◌or◌ ◌when◌ le lt of_bits
unadapted_step_edge = refl

-- an upper size of 1 with a lower size of 2 gives 6; equal sizes pass, even 0, and so does 2 with 1
size_edge : map (λ (sizes : ℕ × ℕ). refuse_settings (adapting false 1 sizes.0 sizes.1 one one one))
    ((1, 2) ∷ (2, 2) ∷ (0, 0) ∷ (2, 1) ∷ []) ≡ 6 ∷ 0 ∷ 0 ∷ 0 ∷ []
unfolding refuse_settings refuse_alpha refuse_adaptive adapting ◌or◌ ◌when◌ le lt of_bits
size_edge = refl

-- the raising factor: 0 and -0 pass; the least below zero, NaN and infinity give 6; and so the lowering factor and the floor
raising_edge : map (λ (x : Float). refuse_settings (adapting false 1 2 1 x one one)) (+0 ∷ -0 ∷ f64 0x8000_0000_0000_0001 ∷ nan ∷ inf false ∷ []) ≡ 0 ∷ 0 ∷ 6 ∷ 6 ∷ 6 ∷ []
unfolding refuse_settings refuse_alpha refuse_adaptive adapting ◌or◌ ◌when◌ le lt of_bits -0
raising_edge = refl

lowering_edge : map (λ (x : Float). refuse_settings (adapting false 1 2 1 one x one)) (+0 ∷ -0 ∷ f64 0x8000_0000_0000_0001 ∷ nan ∷ inf false ∷ []) ≡ 0 ∷ 0 ∷ 6 ∷ 6 ∷ 6 ∷ []
unfolding refuse_settings refuse_alpha refuse_adaptive adapting ◌or◌ ◌when◌ le lt of_bits -0
lowering_edge = refl

floor_edge : map (λ (x : Float). refuse_settings (adapting false 1 2 1 one one x)) (+0 ∷ -0 ∷ f64 0x8000_0000_0000_0001 ∷ nan ∷ inf false ∷ []) ≡ 0 ∷ 0 ∷ 6 ∷ 6 ∷ 6 ∷ []
unfolding refuse_settings refuse_alpha refuse_adaptive adapting ◌or◌ ◌when◌ le lt of_bits -0
floor_edge = refl

-- precision 0 and -0 pass; -1, NaN and infinity give 7
precision_edge : map refuse_precision (+0 ∷ -0 ∷ -1 ∷ nan ∷ inf false ∷ []) ≡ 0 ∷ 0 ∷ 7 ∷ 7 ∷ 7 ∷ []
unfolding refuse_precision ◌when◌ le lt of_bits -0 -1
precision_edge = refl

-- ---- the first number wins: everything that a call tests is wrong, and is set right one by one

-- a call with links: its nodes, links, sources, the length of a list that should be 1, a weight, alpha and a precision
tested_links : ℕ → ℕ → ℕ → ℕ → Float → Float → Float → ℕ
tested_links n m s k weight alpha precision = link_tests n m s ((k, 1) ∷ []) (weight ∷ []) or refuse_settings (set alpha +0 +0 0) or refuse_precision precision

links_in_order : tested_links 65537 1048577 65537 0 nan nan nan
    ∷ tested_links 65536 1048577 65537 0 nan nan nan
    ∷ tested_links 65536 1048576 65537 0 nan nan nan
    ∷ tested_links 65536 1048576 65536 0 nan nan nan
    ∷ tested_links 65536 1048576 65536 1 nan nan nan
    ∷ tested_links 65536 1048576 65536 1 one nan nan
    ∷ tested_links 65536 1048576 65536 1 one one nan
    ∷ tested_links 65536 1048576 65536 1 one one one
    ∷ []
    ≡ 1 ∷ 2 ∷ 2 ∷ 3 ∷ 5 ∷ 6 ∷ 7 ∷ 0 ∷ []
unfolding tested_links set usual refuse_nodes refuse_links refuse_listed refuse_lengths refuse_weights refuse_alpha refuse_adaptive refuse_settings refuse_precision any lengths_differ ◌or◌ ◌when◌ le lt of_bits
links_in_order = refl

-- a call with rows: its nodes, sources, the length of a list that should be 1, its columns, where node 0 has one link, a weight, alpha and a precision
tested_rows : ℕ → ℕ → ℕ → List ℕ → Float → Float → Float → ℕ
tested_rows n s k columns weight alpha precision =
    row_tests n s ((k, 1) ∷ []) (0 ∷ 1 ∷ []) columns (weight ∷ []) or refuse_settings (set alpha +0 +0 0) or refuse_precision precision

rows_in_order : tested_rows 65537 65537 0 (1 ∷ []) nan nan nan
    ∷ tested_rows 1 65537 0 (1 ∷ []) nan nan nan
    ∷ tested_rows 1 65536 0 (1 ∷ []) nan nan nan
    ∷ tested_rows 1 65536 1 (1 ∷ []) nan nan nan
    ∷ tested_rows 1 65536 1 (0 ∷ []) nan nan nan
    ∷ tested_rows 1 65536 1 (0 ∷ []) one nan nan
    ∷ tested_rows 1 65536 1 (0 ∷ []) one one nan
    ∷ tested_rows 1 65536 1 (0 ∷ []) one one one
    ∷ []
    ≡ 1 ∷ 2 ∷ 3 ∷ 4 ∷ 5 ∷ 6 ∷ 7 ∷ 0 ∷ []
unfolding tested_rows set usual refuse_nodes refuse_links refuse_listed refuse_lengths refuse_rows falls refuse_weights refuse_alpha refuse_adaptive refuse_settings refuse_precision any lengths_differ ◌or◌ ◌when◌ le lt of_bits
rows_in_order = refl

-- with rows the links are counted by the columns, after the nodes and before the lengths
too_many_columns : (columns : List ℕ) → length columns ≡ 1048577 → tested_rows 65537 0 0 columns nan nan nan ∷ tested_rows 1 0 0 columns nan nan nan ∷ [] ≡ 1 ∷ 2 ∷ []
unfolding tested_rows refuse_nodes refuse_links ◌or◌ ◌when◌
too_many_columns columns e = rw e refl
