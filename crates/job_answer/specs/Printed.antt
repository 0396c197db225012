-- What a job asks for, by its bytes, what it prints, and where the text stands. Assumes nothing.
use Rattle.std.specs.Prelude.{ℕ, zero, suc, ◌+◌, ◌*◌, not, List, [], ◌++◌, ◌≡◌, eqb, length, Float}
use Rattle.norm.specs.Norm.{Norm}
use Rattle.refusals.specs.Refusals.{◌or◌, ◌when◌, refuse_settings, link_tests}
use Rattle.refusals.specs.declared.Settings.{Settings}
use Rattle.refusals.specs.Usual.{usual}
use Rattle.graph.specs.Rows.{links_of, rows_of}
use Rattle.rules.specs.Ways.{over, push_forward}
use Rattle.rules.specs.Rules.{State, unwatched, solve}
use Rattle.rules.specs.Answers.{visited_count}
use Rattle.job_fields.specs.Fields.{word_at, float_at, words_at, floats_at}
use Rattle.job_fields.specs.Shape.{nodes_in, links_in, sources_in, shaped}
use Rattle.job_text.specs.Text.{refused_line, done_line, node_lines, Grown}

-- ---- what is asked for

-- three f64 (alpha, epsilon, queue threshold), u32 max_pushes, u32 flags (bit 0 adaptive, others 0); the adaptive numbers are the usual ones
unfoldable pub settings_in : List ℕ → Settings
settings_in bytes = usual (float_at bytes 24) (float_at bytes 32) (float_at bytes 40) (word_at bytes 48) (eqb (word_at bytes 52) 1)

-- a forward solve of a list of links, from many sources
pub record Job : Type 0 where
  pub nodes : ℕ
  pub from : List ℕ
  pub to : List ℕ
  pub weight : List Float
  pub sources : List ℕ
  pub given : Settings

-- the same, by its parts
abbrev pub job_of : ℕ → List ℕ → List ℕ → List Float → List ℕ → Settings → Job
job_of n from to weight sources s = record { nodes = n; from = from; to = to; weight = weight; sources = sources; given = s }

-- links from 56 on, each u32 from, u32 to, f64 weight; behind them the sources, each u32
unfoldable pub job_in : List ℕ → Job
job_in bytes =
    let m = links_in bytes in
    job_of (nodes_in bytes) (words_at bytes 56 16 m) (words_at bytes 60 16 m) (floats_at bytes 64 16 m) (words_at bytes (56 + 16 * m) 4 (sources_in bytes)) (settings_in bytes)

-- ---- what is printed

-- The first number of the tests of the solve, to which buffers of the stated lengths are lent. This and `end` are a second form of
-- what the call's own outcome (`solve_multi_source` of `given_links`) goes by: that one speaks of the lent buffers, of which a job says nothing. `number_is`
-- and `end_is` (job_answer/proofs/Texts.antt) tie them: the call's first number and end are these, whatever buffers of those lengths are lent.
unfoldable pub refusal : Job → ℕ
refusal j = link_tests j.nodes (length j.from) (length j.sources) [] j.weight or refuse_settings j.given

-- the state that the solve ends in
unfoldable pub end : Job → State
end j = solve (over push_forward j.nodes (rows_of j.nodes (links_of j.from j.to j.weight))) j.given unwatched j.nodes j.sources

-- a text by its refusal number: that of a solve that is done, or the refusal's
unfoldable pub refused_or : ℕ → List ℕ → List ℕ
refused_or zero done = done
refused_or (suc k) done = refused_line (suc k)

-- the text of a solve that is done, by the state that it ends in
abbrev pub done_text : State → Float → List ℕ
done_text s norm = done_line s.pushes (visited_count s) norm ++ node_lines 0 s.estimate s.residual

-- the text of a job with this first number
pub record Prints (number : ℕ) (j : Job) (text : List ℕ) : Type 0 where
  pub norm : Float
  pub is_norm : number ≡ 0 → Norm (end j).residual norm
  pub is_text : text ≡ refused_or number (done_text (end j) norm)

-- the text for bytes: a wrong shape is 8, before the rest
abbrev pub prints : List ℕ → List ℕ → Type 0
prints bytes = Prints (8 when not (shaped bytes) or refusal (job_in bytes)) (job_in bytes)

-- a text of which P holds stands at the start of the buffer, is r long, and the bytes behind it are as they were
pub record Writes (P : List ℕ → Type 0) (text : List ℕ) (r : ℕ) (text' : List ℕ) : Type 0 where
  pub part : List ℕ
  pub printed : P part
  pub grown : Grown 0 part text r text'
