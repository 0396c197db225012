-- The cases P1 to P12, and below them cases of what is easy to get wrong, as one list that the rules are checked against. A binary64 is
-- given by its bit pattern or by a name for it; the norms and the square roots go by the root's definition. Assumes nothing.
use Rattle.std.specs.Prelude.{ℕ, ◌^◌, Bool, true, false, List, [], ◌∷◌, map, ◌≡◌, refl, negsuc, Float}
use Rattle.std.proofs.Common.{lit<, lit≤}
use Rattle.std.specs.Float.{nan, inf, fin, binary64}
use Rattle.std.specs.Float.Ieee.{fits, odd, of_bits, of_int, add, sub, mul, div, lt, le}
use Rattle.numbers.specs.Numbers.{f64, +0, one}
use Rattle.numbers.specs.Choice.{if◌then◌otherwise◌}
use Rattle.numbers.specs.Tables.{tabulate, any}
use Rattle.refusals.specs.declared.Settings.{Settings}
use Rattle.refusals.specs.Usual.{usual}
use Rattle.norm.specs.SquareRoot.{Root}
use Rattle.norm.specs.Norm.{Norm, add_squares}
use Rattle.norm.proofs.Examples as Roots
use Rattle.marks.specs.Marks.{how_many}
use Rattle.graph.specs.Rows.{Link, link, kept, gives, row_of, rows_of, sum_from, degree, into, into_from, transposed}
use Rattle.queue.specs.Waiting.{out, taken, answer, offered, better, best_from, next, adapted}
use Rattle.rules.specs.Ways.{push_forward, push_backward, effective, transition, share_of, way_of, over, over_links, degree_of}
use Rattle.rules.specs.Rules.{each, State, Watch, unwatched, watched, blank, queued, gain, absorb, threshold_after, counted, offer, pass, hand_out, push, stops, goes_on, due, skips, visit, turn, onward, run}
use Rattle.rules.specs.Rules.{inside, watchable, begun, start, enough, solve}
use Rattle.rules.specs.Pushed.{pushed, distinct}
use Rattle.rules.specs.StillDue.{still_due, Steady}
use Rattle.rules.specs.Answers.{visited_count, score_at, extrapolated, combined, together, neither, backward_alone, forward_alone, both, by_degrees, method_among, method}

-- ---- numbers

-- 1/64
abbrev sixty_fourth : Float
sixty_fourth = f64 0x3f90_0000_0000_0000

-- 1/8
abbrev eighth : Float
eighth = f64 0x3fc0_0000_0000_0000

-- 1/4
abbrev quarter : Float
quarter = f64 0x3fd0_0000_0000_0000

-- 1/2
abbrev half : Float
half = f64 0x3fe0_0000_0000_0000

-- 3/4
abbrev three_quarters : Float
three_quarters = f64 0x3fe8_0000_0000_0000

-- 2
abbrev two : Float
two = f64 0x4000_0000_0000_0000

-- 5/4
abbrev five_quarters : Float
five_quarters = f64 0x3ff4_0000_0000_0000

-- 3/2
abbrev three_halves : Float
three_halves = f64 0x3ff8_0000_0000_0000

-- ---- what is given

-- settings that are not adaptive
abbrev set_to : Float → Float → Float → ℕ → Settings
set_to alpha epsilon threshold max = usual alpha epsilon threshold max false

-- the settings of the cases, with the most pushes
abbrev usually : ℕ → Settings
usually max = set_to half quarter quarter max

-- settings that are adaptive
abbrev adaptive : Settings
adaptive = usual half quarter quarter 2000 true

-- settings by whether they are adaptive, by epsilon, and by step, upper and lower size, raising and lowering factor, floor
abbrev adapting : Bool → Float → ℕ → ℕ → ℕ → Float → Float → Float → Settings
adapting adaptive epsilon step upper lower raising lowering floor =
    record {
      alpha = half;
      epsilon = epsilon;
      queue_threshold = quarter;
      max_pushes = 10;
      adaptive_threshold = adaptive;
      adaptive_step = step;
      upper_size = upper;
      lower_size = lower;
      raising_factor = raising;
      lowering_factor = lowering;
      threshold_floor = floor;
    }

-- a state of one node after so many pushes
abbrev after : ℕ → State
after pushes = record { estimate = +0 ∷ []; residual = +0 ∷ []; slots = out ∷ []; threshold = quarter; pushes = pushes; visited = true ∷ [] }

-- the thresholds after one push more than 5, 6, 12 and 13
abbrev stepping : Settings → List Float
stepping settings = map (λ (pushes : ℕ). (counted settings 0 (after pushes)).threshold) (5 ∷ 6 ∷ 12 ∷ 13 ∷ [])

-- a link 0→1
abbrev chain : Float → List Link
chain weight = link 0 1 weight ∷ []

-- links 0→1 and 0→2
abbrev fork : Float → Float → List Link
fork a b = link 0 1 a ∷ link 0 2 b ∷ []

-- links 0→2 and 1→2
abbrev joint : List Link
joint = link 0 2 one ∷ link 1 2 one ∷ []

-- a solve of a list of links
abbrev solved : Bool → ℕ → List Link → Settings → List ℕ → State
solved direction n links settings sources = solve (over_links direction n links) settings unwatched n sources

-- the chain from 0, with a node that is watched
abbrev watching : ℕ → Float → State
watching v precision = solve (over_links push_forward 2 (chain one)) (usually 10) (watched v precision) 2 (0 ∷ [])

-- a node with a link to itself that watches itself at the precision 5/8, a tenth of which is 1/16
abbrev watching_itself : State
watching_itself = solve (over_links push_forward 1 (link 0 0 one ∷ [])) (set_to half sixty_fourth sixty_fourth 10) (watched 0 (f64 0x3fe4_0000_0000_0000)) 1 (0 ∷ [])

-- the fork with weights 2 and 3, and alpha 0.15
abbrev uneven : Bool → ℕ → State
uneven direction v = solved direction 3 (fork two (f64 0x4008_0000_0000_0000)) (set_to (f64 0x3fc3_3333_3333_3333) eighth eighth 1) (v ∷ [])

-- P1: the chain from 0
abbrev along : State
along = solved push_forward 2 (chain one) (usually 10) (0 ∷ [])

-- P8: the chain backward from 1
abbrev against : State
against = solved push_backward 2 (chain one) (usually 10) (1 ∷ [])

-- ---- what comes out

-- what is looked at: both counts and both vectors
pub record Ending : Type 0 where
  pub pushes : ℕ
  pub visited : ℕ
  pub estimate : List Float
  pub residual : List Float

-- an ending, by its parts
abbrev ending : ℕ → ℕ → List Float → List Float → Ending
ending pushes visited estimate residual = record { pushes = pushes; visited = visited; estimate = estimate; residual = residual }

-- that of a state
abbrev shown : State → Ending
shown s = ending s.pushes (visited_count s) s.estimate s.residual

-- where a solve stops: its pushes, what is left over at each node, and whether a push is still due there
pub record Stop : Type 0 where
  pub pushes : ℕ
  pub residual : List Float
  pub due : List Bool

-- a stop, by its parts
abbrev stop : ℕ → List Float → List Bool → Stop
stop pushes residual due = record { pushes = pushes; residual = residual; due = due }

-- that of a solve of a list of links
abbrev stopping : Bool → ℕ → List Link → Settings → Watch → List ℕ → Stop
stopping direction n links settings watch sources =
    let way = over_links direction n links in
    let s = solve way settings watch n sources in
    stop s.pushes s.residual (tabulate n (still_due way settings s.residual))

-- the list
pub record Worked : Type 0 where
  -- P1: three pushes, two nodes
  pub chain_forward : shown along ≡ ending 3 2 (half ∷ f64 0x3fd8_0000_0000_0000 ∷ []) (+0 ∷ eighth ∷ [])
  pub chain_norm : Norm along.residual eighth
  pub chain_pushed : pushed (over_links push_forward 2 (chain one)) (usually 10) unwatched 32 (start (over_links push_forward 2 (chain one)) (usually 10) unwatched 2 (0 ∷ [])) ≡ 0 ∷ 1 ∷ 1 ∷ []
  pub chain_distinct : distinct (0 ∷ 1 ∷ 1 ∷ []) ≡ 0 ∷ 1 ∷ []
  -- P2: no nodes, or a source out of range
  pub no_nodes : shown (solved push_forward 0 [] (usually 10) (0 ∷ [])) ≡ ending 0 0 [] []
  pub no_nodes_norm : Norm (solved push_forward 0 [] (usually 10) (0 ∷ [])).residual +0
  pub out_of_range : shown (solved push_forward 2 (chain one) (usually 10) (2 ∷ [])) ≡ ending 0 0 (+0 ∷ +0 ∷ []) (+0 ∷ +0 ∷ [])
  pub out_of_range_norm : Norm (solved push_forward 2 (chain one) (usually 10) (2 ∷ [])).residual +0
  -- P3: no pushes
  pub no_pushes : shown (solved push_forward 2 (chain one) (usually 0) (0 ∷ [])) ≡ ending 0 0 (+0 ∷ +0 ∷ []) (one ∷ +0 ∷ [])
  pub no_pushes_norm : Norm (solved push_forward 2 (chain one) (usually 0) (0 ∷ [])).residual one
  -- P4: one push
  pub one_push : shown (solved push_forward 2 (chain one) (usually 1) (0 ∷ [])) ≡ ending 1 1 (half ∷ +0 ∷ []) (+0 ∷ half ∷ [])
  -- P5: a threshold that nobody reaches
  pub high_threshold : shown (solved push_forward 2 (chain one) (set_to half quarter two 10) (0 ∷ [])) ≡ ending 0 0 (+0 ∷ +0 ∷ []) (one ∷ +0 ∷ [])
  -- P6: node 1 is popped, and skipped
  pub skipped : shown (solved push_forward 2 (chain one) (set_to half three_quarters quarter 10) (0 ∷ [])) ≡ ending 1 1 (half ∷ +0 ∷ []) (+0 ∷ half ∷ [])
  pub popped : (solved push_forward 2 (chain one) (set_to half three_quarters quarter 10) (0 ∷ [])).slots ≡ out ∷ out ∷ []
  -- P7: of equal priorities, node 2 goes first
  pub tie : shown (solved push_forward 3 (fork one one) (usually 2) (0 ∷ [])) ≡ ending 2 2 (half ∷ +0 ∷ eighth ∷ []) (+0 ∷ quarter ∷ eighth ∷ [])
  -- P8: backward
  pub chain_backward : shown against ≡ ending 3 2 (f64 0x3fd8_0000_0000_0000 ∷ half ∷ []) (eighth ∷ +0 ∷ [])
  -- P9: P1 and P8 combined
  pub chain_together : together half against along 2 ≡ f64 0x3fdc_0000_0000_0000
  -- the extrapolated vector of P1, and a score out of range
  pub chain_extrapolated : extrapolated half 2 along.estimate along.residual ≡ half ∷ f64 0x3fdc_0000_0000_0000 ∷ []
  pub score_inside : score_at along 1 ≡ f64 0x3fd8_0000_0000_0000
  pub score_out_of_range : score_at along 2 ≡ +0
  -- P10: an out-degree below 1
  pub light_backward : shown (solved push_backward 2 (chain half) (usually 1) (1 ∷ [])) ≡ ending 1 1 (+0 ∷ half ∷ []) (quarter ∷ +0 ∷ [])
  -- P11: the share of a source out of range is lost
  pub share_lost : shown (solved push_forward 2 (chain one) (usually 0) (0 ∷ 5 ∷ [])) ≡ ending 0 0 (+0 ∷ +0 ∷ []) (half ∷ +0 ∷ [])
  pub share_lost_norm : Norm (solved push_forward 2 (chain one) (usually 0) (0 ∷ 5 ∷ [])).residual half
  -- P12: two square roots
  pub root_two : Root two (f64 0x3ff6_a09e_667f_3bcd)
  pub root_least : Root (f64 1) (fin false 1 (negsuc 536))
  -- the forward share: the product first, then the quotient (weight / degree first would end in c3)
  pub product_first : shown (uneven push_forward 0) ≡ ending 1 1 (f64 0x3fc3_3333_3333_3333 ∷ +0 ∷ +0 ∷ []) (+0 ∷ f64 0x3fd5_c28f_5c28_f5c2 ∷ f64 0x3fe0_51eb_851e_b852 ∷ [])
  -- the backward share: the quotient first, by the out-degree of the entry's node (the product first would end in c2)
  pub quotient_first : shown (uneven push_backward 1) ≡ ending 1 1 (+0 ∷ f64 0x3fc3_3333_3333_3333 ∷ +0 ∷ []) (f64 0x3fd5_c28f_5c28_f5c3 ∷ +0 ∷ +0 ∷ [])
  -- forward, a degree below 1 divides as it is
  pub light_forward : shown (solved push_forward 2 (chain half) (usually 1) (0 ∷ [])) ≡ ending 1 1 (half ∷ +0 ∷ []) (+0 ∷ half ∷ [])
  -- a link from a node to itself brings its mass back
  pub own_link : shown (solved push_forward 1 (link 0 0 one ∷ []) (usually 1) (0 ∷ [])) ≡ ending 1 1 (half ∷ []) (half ∷ [])
  -- the priority of a node that waits stays where a second link brings it more: 2 is pushed before 1, which has more by then
  pub priority_stays : shown (solved push_forward 3 (link 0 1 five_quarters ∷ link 0 2 three_halves ∷ link 0 1 five_quarters ∷ []) (set_to half eighth eighth 2) (0 ∷ [])) ≡ ending 2 2 (half ∷ +0 ∷ f64 0x3fb8_0000_0000_0000 ∷ []) (+0 ∷ f64 0x3fd4_0000_0000_0000 ∷ f64 0x3fb8_0000_0000_0000 ∷ [])
  -- a skip between two pushes uses up no push: node 1 has the higher priority and is skipped, and node 2 is pushed after it
  pub skipped_between : shown (solved push_forward 3 (link 0 1 three_quarters ∷ link 0 2 quarter ∷ link 0 2 one ∷ []) (set_to half quarter +0 2) (0 ∷ [])) ≡ ending 2 2 (half ∷ +0 ∷ f64 0x3fc4_0000_0000_0000 ∷ []) (+0 ∷ f64 0x3fc8_0000_0000_0000 ∷ f64 0x3fc4_0000_0000_0000 ∷ [])
  -- a priority is the residual over e: with a degree of 2 it is 1/2 at the start, which a threshold of 3/4 keeps out, forward by the out-degree and
  -- backward by the in-degree
  pub offered_over_degree : shown (solved push_forward 3 (fork one one) (set_to half quarter three_quarters 10) (0 ∷ [])) ≡ ending 0 0 (+0 ∷ +0 ∷ +0 ∷ []) (one ∷ +0 ∷ +0 ∷ [])
  pub offered_over_in_degree : shown (solved push_backward 3 joint (set_to half quarter three_quarters 10) (2 ∷ [])) ≡ ending 0 0 (+0 ∷ +0 ∷ +0 ∷ []) (+0 ∷ +0 ∷ one ∷ [])
  -- a skip goes by epsilon × e: with a degree of 2 the residual 1 is below 3/4 × 2, though not below 3/4
  pub skipped_by_degree : shown (solved push_forward 3 (fork one one) (set_to half three_quarters quarter 10) (0 ∷ [])) ≡ ending 0 0 (+0 ∷ +0 ∷ +0 ∷ []) (one ∷ +0 ∷ +0 ∷ [])
  pub skipped_by_in_degree : shown (solved push_backward 3 joint (set_to half three_quarters quarter 10) (2 ∷ [])) ≡ ending 0 0 (+0 ∷ +0 ∷ +0 ∷ []) (+0 ∷ +0 ∷ one ∷ [])
  -- a residual of 0 moves nothing, and is counted: with alpha 1 node 1 gets 0 and is pushed once; a rest of 0 handed back would let it wait again
  pub zero_moves_nothing : shown (solved push_forward 2 (chain one) (set_to one +0 +0 10) (0 ∷ [])) ≡ ending 2 2 (one ∷ +0 ∷ []) (+0 ∷ +0 ∷ [])
  -- a source that is listed twice has both shares
  pub listed_twice : shown (solved push_forward 2 (chain one) (usually 0) (0 ∷ 0 ∷ [])) ≡ ending 0 0 (+0 ∷ +0 ∷ []) (one ∷ +0 ∷ [])
  -- where the degree is 0 the rest goes back, links or not
  pub weightless : shown (solved push_forward 2 (chain +0) (usually 1) (0 ∷ [])) ≡ ending 1 1 (half ∷ +0 ∷ []) (half ∷ +0 ∷ [])
  -- the early stop: after one push the estimate of node 0 is above 1/4, and never above 1/2; a watched node out of range
  pub stopped : shown (watching 0 quarter) ≡ ending 1 1 (half ∷ +0 ∷ []) (+0 ∷ half ∷ [])
  pub unstopped : shown (watching 0 half) ≡ ending 3 2 (half ∷ f64 0x3fd8_0000_0000_0000 ∷ []) (+0 ∷ eighth ∷ [])
  -- it asks for both: the estimate is above 5/8 after two pushes, and the residual is 1/16 after four and below it after five
  pub stopped_by_both : shown watching_itself ≡ ending 5 1 (f64 0x3fef_0000_0000_0000 ∷ []) (f64 0x3fa0_0000_0000_0000 ∷ [])
  pub unwatchable : shown (watching 2 quarter) ≡ ending 0 0 (+0 ∷ +0 ∷ []) (+0 ∷ +0 ∷ [])
  -- the threshold adapts at the thousandth push, and not before: × 0.9, since nobody waits
  pub adapts : (counted adaptive 0 (after 999)).threshold ≡ f64 0x3fcc_cccc_cccc_cccd
  pub adapts_not : (counted adaptive 0 (after 998)).threshold ≡ quarter
  -- with a step of 7 it adapts at the seventh and the fourteenth push, with a step of 1 at each, and at none if the settings are not adaptive
  pub adapts_by_sevens : stepping (adapting true quarter 7 1 1 two half +0) ≡ quarter ∷ eighth ∷ quarter ∷ eighth ∷ []
  pub adapts_each_time : stepping (adapting true quarter 1 1 1 two half +0) ≡ eighth ∷ eighth ∷ eighth ∷ eighth ∷ []
  pub adapts_never : stepping (adapting false quarter 1 1 1 two half +0) ≡ quarter ∷ quarter ∷ quarter ∷ quarter ∷ []
  -- P1, and after each push the threshold is halved: 1/8, 1/16 and so on, which lets node 1 in until epsilon skips it. A floor of 1/8 allows one halving
  pub falls_freely : shown (solved push_forward 2 (chain one) (adapting true sixty_fourth 1 2 2 two half +0) (0 ∷ [])) ≡ ending 7 2 (half ∷ f64 0x3fdf_8000_0000_0000 ∷ []) (+0 ∷ f64 0x3f80_0000_0000_0000 ∷ [])
  pub falls_to_the_floor : shown (solved push_forward 2 (chain one) (adapting true sixty_fourth 1 2 2 two half eighth) (0 ∷ [])) ≡ ending 4 2 (half ∷ f64 0x3fdc_0000_0000_0000 ∷ []) (+0 ∷ f64 0x3fb0_0000_0000_0000 ∷ [])
  -- the statement for the stop: with pushes left nothing is due, though something is left over at node 1: 1/8, which is below both bars (P1), 1/2 below an
  -- epsilon of 3/4 alone (P6), and 1/2 below a threshold of 3/4 alone
  pub stop_below_both : stopping push_forward 2 (chain one) (usually 10) unwatched (0 ∷ []) ≡ stop 3 (+0 ∷ eighth ∷ []) (false ∷ false ∷ [])
  pub stop_below_epsilon : stopping push_forward 2 (chain one) (set_to half three_quarters quarter 10) unwatched (0 ∷ []) ≡ stop 1 (+0 ∷ half ∷ []) (false ∷ false ∷ [])
  pub stop_below_threshold : stopping push_forward 2 (chain one) (set_to half quarter three_quarters 10) unwatched (0 ∷ []) ≡ stop 1 (+0 ∷ half ∷ []) (false ∷ false ∷ [])
  -- both bars go by e: with a degree of 2, 1 is below 3/4 × 2, and 1/2 is below 3/4
  pub stop_by_degree : stopping push_forward 3 (fork one one) (set_to half three_quarters quarter 10) unwatched (0 ∷ []) ≡ stop 0 (one ∷ +0 ∷ +0 ∷ []) (false ∷ false ∷ false ∷ [])
  pub stop_over_degree : stopping push_forward 3 (fork one one) (set_to half quarter three_quarters 10) unwatched (0 ∷ []) ≡ stop 0 (one ∷ +0 ∷ +0 ∷ []) (false ∷ false ∷ false ∷ [])
  pub stop_by_in_degree : stopping push_backward 3 joint (set_to half three_quarters quarter 10) unwatched (2 ∷ []) ≡ stop 0 (+0 ∷ +0 ∷ one ∷ []) (false ∷ false ∷ false ∷ [])
  pub stop_over_in_degree : stopping push_backward 3 joint (set_to half quarter three_quarters 10) unwatched (2 ∷ []) ≡ stop 0 (+0 ∷ +0 ∷ one ∷ []) (false ∷ false ∷ false ∷ [])
  -- the settings of the cases are such as it is about
  pub usually_steady : Steady (usually 10)
  -- with one premise dropped something is due. No push is left (P7): 1/4 at node 1 is at both bars, which is enough, and 1/8 at node 2 is below
  pub due_without_pushes : stopping push_forward 3 (fork one one) (usually 2) unwatched (0 ∷ []) ≡ stop 2 (+0 ∷ quarter ∷ eighth ∷ []) (false ∷ true ∷ false ∷ [])
  -- the early stop leaves 1/2 at node 1
  pub due_when_watched : stopping push_forward 2 (chain one) (usually 10) (watched 0 quarter) (0 ∷ []) ≡ stop 1 (+0 ∷ half ∷ []) (false ∷ true ∷ [])
  -- the threshold rises to 1 after the first push, which keeps node 1 out with 1/4, though that is at both bars of the settings
  pub due_when_adaptive : stopping push_forward 2 (chain one) (adapting true quarter 1 0 0 (f64 0x4010_0000_0000_0000) half +0) unwatched (0 ∷ []) ≡ stop 2 (+0 ∷ quarter ∷ []) (false ∷ true ∷ [])
  -- epsilon and threshold are 0, and a residual of +0 is at least both bars
  pub due_at_epsilon_zero : stopping push_forward 2 (chain one) (set_to one +0 +0 10) unwatched (0 ∷ []) ≡ stop 2 (+0 ∷ +0 ∷ []) (true ∷ true ∷ [])
  -- epsilon is above 0 and no binary64: 2^-2000 times 1 is rounded to 0
  pub no_binary : fits binary64 (fin false 1 (negsuc 1999)) ≡ false
  pub due_at_no_binary : stopping push_forward 2 (chain one) (set_to one (fin false 1 (negsuc 1999)) +0 10) unwatched (0 ∷ []) ≡ stop 2 (+0 ∷ +0 ∷ []) (true ∷ true ∷ [])
  -- no push is due at a NaN, and one is at an infinity
  pub no_number_due : tabulate 2 (still_due (over_links push_forward 2 []) (usually 10) (nan ∷ inf false ∷ [])) ≡ false ∷ true ∷ []
  -- the choice of adaptive_solve: the out-degree of the source against 2 × the in-degree of the target
  pub by_both : method 3 (rows_of 3 (fork one one)) 0 1 ≡ both
  pub by_backward : method 3 (rows_of 3 (fork one two)) 0 1 ≡ backward_alone
  pub by_forward : method 3 (rows_of 3 (fork one two)) 1 2 ≡ forward_alone
  pub by_neither : method 3 (rows_of 3 (fork one two)) 3 0 ≡ neither

-- the list holds
pub worked : Worked
unfolding if◌then◌otherwise◌ tabulate how_many kept gives row_of rows_of sum_from degree into into_from transposed taken answer offered better best_from next usual adapted effective transition share_of way_of over degree_of each blank queued gain absorb threshold_after counted offer pass hand_out push stops goes_on due skips visit turn onward run inside watchable begun start enough solve still_due pushed distinct any visited_count score_at extrapolated combined by_degrees method_among method add_squares fits of_bits of_int add sub mul div lt le odd
worked =
    record {
      chain_forward = refl;
      chain_norm = record { q = 2 ^ 52; k = 1019; is = refl; near = record { from = lit≤ tt; to = lit< tt; over = lit< tt; under = lit< tt } };
      chain_pushed = refl;
      chain_distinct = refl;
      no_nodes = refl;
      no_nodes_norm = refl;
      out_of_range = refl;
      out_of_range_norm = refl;
      no_pushes = refl;
      no_pushes_norm = record { q = 2 ^ 52; k = 1022; is = refl; near = record { from = lit≤ tt; to = lit< tt; over = lit< tt; under = lit< tt } };
      one_push = refl;
      high_threshold = refl;
      skipped = refl;
      popped = refl;
      tie = refl;
      chain_backward = refl;
      chain_together = refl;
      chain_extrapolated = refl;
      score_inside = refl;
      score_out_of_range = refl;
      light_backward = refl;
      share_lost = refl;
      share_lost_norm = record { q = 2 ^ 52; k = 1021; is = refl; near = record { from = lit≤ tt; to = lit< tt; over = lit< tt; under = lit< tt } };
      root_two = Roots.two;
      root_least = Roots.least;
      product_first = refl;
      quotient_first = refl;
      light_forward = refl;
      own_link = refl;
      priority_stays = refl;
      skipped_between = refl;
      offered_over_degree = refl;
      offered_over_in_degree = refl;
      skipped_by_degree = refl;
      skipped_by_in_degree = refl;
      zero_moves_nothing = refl;
      listed_twice = refl;
      weightless = refl;
      stopped = refl;
      unstopped = refl;
      stopped_by_both = refl;
      unwatchable = refl;
      adapts = refl;
      adapts_not = refl;
      adapts_by_sevens = refl;
      adapts_each_time = refl;
      adapts_never = refl;
      falls_freely = refl;
      falls_to_the_floor = refl;
      stop_below_both = refl;
      stop_below_epsilon = refl;
      stop_below_threshold = refl;
      stop_by_degree = refl;
      stop_over_degree = refl;
      stop_by_in_degree = refl;
      stop_over_in_degree = refl;
      usually_steady = record { binary = refl; above = refl; adapts_not = refl };
      due_without_pushes = refl;
      due_when_watched = refl;
      due_when_adaptive = refl;
      due_at_epsilon_zero = refl;
      no_binary = refl;
      due_at_no_binary = refl;
      no_number_due = refl;
      by_both = refl;
      by_backward = refl;
      by_forward = refl;
      by_neither = refl;
    }
