-- The push rules as functions that compute, in the words of docs/RULES.md, each rule after those that it is made of, so that the start and the whole come last.
-- `Cases.antt` holds the worked cases against them. Assumes nothing.
use Rattle.std.specs.Prelude.{ℕ, zero, suc, ◌+◌, ◌*◌, ◌%◌, Bool, true, false, not, ◌&&◌, List, [], ◌∷◌, length, get_or, set, replicate, ltb, eqb, pos, Float}
use Rattle.std.specs.Float.{nan, binary64}
use Rattle.std.specs.Float.Ieee.{lt, le, of_int}
use Rattle.numbers.specs.Numbers.{f64, +0, one, ◌⊕◌, ◌⊖◌, ◌⊗◌, ◌⊘◌}
use Rattle.numbers.specs.Choice.{if◌then◌otherwise◌}
use Rattle.refusals.specs.declared.Settings.{Settings}
use Rattle.graph.specs.Rows.{Entry}
use Rattle.queue.specs.Waiting.{Slot, out, taken, offered, Best, nobody, best, next, adapted}
use Rattle.rules.specs.Ways.{Way, degree_of, effective_of}

-- what stands at v
abbrev pub at : List Float → ℕ → Float
at xs v = get_or xs v nan

-- f for each of a list, in order
unfoldable pub each : {A S : Type 0} → (A → S → S) → List A → S → S
each f [] s = s
each f (x ∷ xs) s = each f xs (f x s)

-- ---- the state

-- for each node its estimate, its residual, its slot in the queue and whether it was pushed; the queue's threshold; how many pushes there were
pub record State : Type 0 where
  pub estimate : List Float
  pub residual : List Float
  pub slots : List Slot
  pub threshold : Float
  pub pushes : ℕ
  pub visited : List Bool

-- nothing anywhere, for n nodes
unfoldable pub blank : ℕ → Float → State
blank n threshold =
    record { estimate = replicate n +0; residual = replicate n +0; slots = replicate n out; threshold = threshold; pushes = 0; visited = replicate n false }

-- ---- the four moves that all rules are made of

-- the queue is changed to these slots
unfoldable pub queued : List Slot → State → State
queued slots s =
    record { estimate = s.estimate; residual = s.residual; slots = slots; threshold = s.threshold; pushes = s.pushes; visited = s.visited }

-- x is added to the residual of v
unfoldable pub gain : Float → ℕ → State → State
gain x v s =
    record {
      estimate = s.estimate;
      residual = set s.residual v (at s.residual v ⊕ x);
      slots = s.slots;
      threshold = s.threshold;
      pushes = s.pushes;
      visited = s.visited;
    }

-- the estimate where that of v gained alpha × its residual
abbrev pub absorbed : Float → ℕ → List Float → List Float → List Float
absorbed alpha v estimate residual = set estimate v (at estimate v ⊕ (alpha ⊗ at residual v))

-- the residual where that of v became +0
abbrev pub cleared : ℕ → List Float → List Float
cleared v residual = set residual v +0

-- the estimate of v gains alpha × its residual, and the residual becomes +0
unfoldable pub absorb : Float → ℕ → State → State
absorb alpha v s =
    record {
      estimate = absorbed alpha v s.estimate s.residual;
      residual = cleared v s.residual;
      slots = s.slots;
      threshold = s.threshold;
      pushes = s.pushes;
      visited = s.visited;
    }

-- the threshold after so many pushes, at a size of the queue: in adaptive mode it adapts after every step
unfoldable pub threshold_after : Settings → ℕ → ℕ → Float → Float
threshold_after settings pushes size threshold =
    if settings.adaptive_threshold && eqb (pushes % settings.adaptive_step) 0 then adapted settings size threshold otherwise threshold

-- a push of v is counted and v is marked, and the threshold may adapt
unfoldable pub counted : Settings → ℕ → State → State
counted settings v s =
    record {
      estimate = s.estimate;
      residual = s.residual;
      slots = s.slots;
      threshold = threshold_after settings (suc s.pushes) (taken s.slots) s.threshold;
      pushes = suc s.pushes;
      visited = set s.visited v true;
    }

-- ---- offer and push

module _ (way : Way) where
  -- v is offered at the priority residual / e
  unfoldable pub offer : ℕ → State → State
  offer v s = queued (offered s.threshold v (at s.residual v ⊘ effective_of way v) s.slots) s

  -- a neighbour gets its share of the rest, and is offered just after
  unfoldable pub pass : Float → Float → Entry → State → State
  pass rest degree x s = offer x.node (gain (way.share rest degree x) x.node s)

  -- where the degree of v is above 0 the rest goes through the row; otherwise it is added back to v, and v is offered
  unfoldable pub hand_out : Float → ℕ → State → State
  hand_out rest v s = if lt +0 (degree_of way v) then each (pass rest (degree_of way v)) (way.row v) s otherwise offer v (gain rest v s)

  -- a push of v; where its residual is not above 0, nothing moves
  unfoldable pub push : Float → ℕ → State → State
  push alpha v s = if le (at s.residual v) +0 then s otherwise hand_out ((one ⊖ alpha) ⊗ at s.residual v) v (absorb alpha v s)

-- ---- the loop

-- the node that a solve watches, and to which precision
pub data Watch : Type 0 where
  unwatched : Watch
  watched : ℕ → Float → Watch

-- the early stop: the estimate of the watched node is above the precision, and its residual is below a tenth of it
unfoldable pub stops : Watch → State → Bool
stops unwatched s = false
stops (watched v precision) s = lt precision (at s.estimate v) && lt (at s.residual v) (precision ⊗ f64 0x3fb9_9999_9999_999a)

-- the loop goes on while push_count < max_pushes and the early stop does not say so
unfoldable pub goes_on : Settings → Watch → State → Bool
goes_on settings watch s = ltb s.pushes settings.max_pushes && not (stops watch s)

-- whose turn it is: the next of the queue, while the loop goes on
unfoldable pub due : Settings → Watch → State → Best
due settings watch s = if goes_on settings watch s then next s.slots otherwise nobody

-- whether v is skipped: its residual < epsilon × e
unfoldable pub skips : Way → Settings → ℕ → State → Bool
skips way settings v s = lt (at s.residual v) (settings.epsilon ⊗ effective_of way v)

-- v is skipped without counting, or pushed, marked and counted
unfoldable pub visit : Way → Settings → ℕ → State → State
visit way settings v s = if skips way settings v s then s otherwise counted settings v (push way settings.alpha v s)

-- v leaves the queue, and is visited
unfoldable pub turn : Way → Settings → ℕ → State → State
turn way settings v s = visit way settings v (queued (set s.slots v out) s)

-- what follows, where it is somebody's turn
unfoldable pub onward : {A : Type 0} → Best → A → (ℕ → A) → A
onward nobody end after = end
onward (best v priority) end after = after v

-- turns until it is nobody's, at most so many
unfoldable pub run : Way → Settings → Watch → ℕ → State → State
run way settings watch zero s = s
run way settings watch (suc turns) s = onward (due settings watch s) s (λ v. run way settings watch turns (turn way settings v s))

-- ---- the start, and the whole

-- those of a list that are below n
unfoldable pub inside : ℕ → List ℕ → List ℕ
inside n [] = []
inside n (v ∷ vs) =
    let more = inside n vs in
    if ltb v n then v ∷ more otherwise more

-- whether the watched node is below n
unfoldable pub watchable : ℕ → Watch → Bool
watchable n unwatched = true
watchable n (watched v precision) = ltb v n

-- the sources or targets that a solve begins at: none where the watched node is out of range
unfoldable pub begun : ℕ → Watch → List ℕ → List ℕ
begun n watch sources = if watchable n watch then inside n sources otherwise []

-- the state before the first turn: 1 over the length of the list is added at each entry that is in range, and then each of these is offered
unfoldable pub start : Way → Settings → Watch → ℕ → List ℕ → State
start way settings watch n sources =
    each (offer way) (begun n watch sources)
    (each (gain (one ⊘ of_int binary64 (pos (length sources)))) (begun n watch sources) (blank n settings.queue_threshold))

-- as many turns as never run out: at most n of them lie between two pushes
unfoldable pub enough : Settings → ℕ → ℕ
enough settings n = settings.max_pushes * suc n + n

-- the whole, for one source or target and for many, watched or not: one of them is a list of one
unfoldable pub solve : Way → Settings → Watch → ℕ → List ℕ → State
solve way settings watch n sources = run way settings watch (enough settings n) (start way settings watch n sources)
