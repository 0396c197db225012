-- Which calls are refused, and with which number: the table of refusals, row by row. A test is its number where it applies, and 0 where it does not.
-- Assumes nothing.
use Rattle.std.specs.Prelude.{ℕ, zero, suc, Bool, true, false, not, ◌&&◌, ◌||◌, List, [], ◌∷◌, ◌≡◌, length, get_or, ltb, leb, eqb, Float}
use Rattle.std.specs.Float.{inf}
use Rattle.std.specs.Float.Ieee.{lt, le}
use Rattle.numbers.specs.Numbers.{f64, +0, one}
use Rattle.numbers.specs.Tables.{any}
use Rattle.refusals.specs.declared.Settings.{Settings}

infixr 20 ◌or◌
infix 25 ◌when◌
-- the first of two numbers that is not 0: the first test that applies
unfoldable pub ◌or◌ : ℕ → ℕ → ℕ
zero or b = b
suc a or b = suc a

-- a number where a fact holds, and 0 where it does not
unfoldable pub ◌when◌ : ℕ → Bool → ℕ
k when true = k
k when false = 0

-- whether b holds, or the two numbers of one of the pairs differ
unfoldable pub lengths_differ : Bool → List (ℕ × ℕ) → Bool
lengths_differ b [] = b
lengths_differ b (p ∷ ps) = lengths_differ (b || not (eqb p.0 p.1)) ps

-- whether the numbers fall somewhere
unfoldable pub falls : List ℕ → Bool
falls [] = false
falls (a ∷ []) = false
falls (a ∷ b ∷ ss) = ltb b a || falls (b ∷ ss)

-- ---- numbers

-- 1,048,576
abbrev pub heaviest : Float
heaviest = f64 0x4130_0000_0000_0000

-- a number from a to b; a NaN is none, and -0 counts as 0
abbrev pub within : Float → Float → Float → Bool
within a b x = le a x && le x b

-- a finite number that is not below zero
abbrev pub amount : Float → Bool
amount x = le +0 x && lt x (inf false)

-- a weight that 5 refuses
abbrev pub wrong : Float → Bool
wrong w = not (within +0 heaviest w)

-- ---- the tests

-- 1: more than 65,536 nodes
unfoldable pub refuse_nodes : ℕ → ℕ
refuse_nodes n = 1 when ltb 65536 n

-- 2: more than 1,048,576 links
unfoldable pub refuse_links : ℕ → ℕ
refuse_links m = 2 when ltb 1048576 m

-- 2: more than 65,536 sources or targets
unfoldable pub refuse_listed : ℕ → ℕ
refuse_listed s = 2 when ltb 65536 s

-- 3: a lent buffer has another length than stated; each length goes with the one that is stated
unfoldable pub refuse_lengths : List (ℕ × ℕ) → ℕ
refuse_lengths ps = 3 when lengths_differ false ps

-- 4: starts do not begin at 0, fall somewhere, do not end at the link count, or a column is not below the node count
unfoldable pub refuse_rows : ℕ → List ℕ → List ℕ → ℕ
refuse_rows n starts columns =
    4 when (not (eqb (get_or starts 0 0) 0) || falls starts || not (eqb (get_or starts n 0) (length columns)) || any (λ v. leb n v) columns)

-- 5: a listed weight, kept or not, is NaN, infinite, below zero or above 1,048,576
unfoldable pub refuse_weights : List Float → ℕ
refuse_weights ws = 5 when any wrong ws

-- 6: alpha not in 0..1
unfoldable pub refuse_alpha : Float → ℕ
refuse_alpha a = 6 when not (within +0 one a)

-- 6, adaptive or not: a step of zero, a lower size above the upper, a factor or floor not finite or below zero
unfoldable pub refuse_adaptive : Settings → ℕ
refuse_adaptive s =
    6 when
    (eqb s.adaptive_step 0
    || ltb s.upper_size s.lower_size
    || not (amount s.raising_factor)
    || not (amount s.lowering_factor)
    || not (amount s.threshold_floor))

-- 6: alpha of the settings; epsilon or queue threshold not finite or below zero; max_pushes above 1,000,000,000; the adaptive numbers
unfoldable pub refuse_settings : Settings → ℕ
refuse_settings s =
    refuse_alpha s.alpha
    or 6 when (not (amount s.epsilon) || not (amount s.queue_threshold) || ltb 1000000000 s.max_pushes)
    or refuse_adaptive s

-- settings that are not refused
abbrev pub Sound : Settings → Type 0
Sound s = refuse_settings s ≡ 0

-- 7: a precision not finite or below zero
unfoldable pub refuse_precision : Float → ℕ
refuse_precision p = 7 when not (amount p)

-- ---- the first number that applies, by the kind of call. A call with settings or a precision goes on: `.. or refuse_settings s or refuse_precision p`

-- 1 to 3: n nodes, m links, s sources or targets, and lengths ps
abbrev pub refuse_sizes : ℕ → ℕ → ℕ → List (ℕ × ℕ) → ℕ
refuse_sizes n m s ps = refuse_nodes n or refuse_links m or refuse_listed s or refuse_lengths ps

-- with m links in a list, of weights ws
abbrev pub link_tests : ℕ → ℕ → ℕ → List (ℕ × ℕ) → List Float → ℕ
link_tests n m s ps ws = refuse_sizes n m s ps or refuse_weights ws

-- with rows
abbrev pub row_tests : ℕ → ℕ → List (ℕ × ℕ) → List ℕ → List ℕ → List Float → ℕ
row_tests n s ps starts columns ws = refuse_sizes n (length columns) s ps or refuse_rows n starts columns or refuse_weights ws
