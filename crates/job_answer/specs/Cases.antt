-- Jobs computed from their bytes to their text: case P1, and a refusal of each number that a job can give. Assumes nothing.
use Rattle.std.specs.Prelude.{ℕ, ◌^◌, List, [], ◌∷◌, ◌++◌, refl, set}
use Rattle.std.proofs.Common.{arith, lit<, lit≤}
use Rattle.std.specs.Float.Ieee.{odd, of_bits, to_bits, of_int, add, sub, mul, div, lt, le}
use Rattle.numbers.specs.Numbers.{f64, +0}
use Rattle.numbers.specs.Choice.{if◌then◌otherwise◌}
use Rattle.numbers.specs.Tables.{tabulate, any}
use Rattle.norm.specs.Norm.{add_squares}
use Rattle.refusals.specs.Usual.{usual}
use Rattle.refusals.specs.Refusals.{◌or◌, ◌when◌, lengths_differ, refuse_nodes, refuse_links, refuse_listed, refuse_lengths, refuse_weights, refuse_alpha, refuse_adaptive, refuse_settings}
use Rattle.marks.specs.Marks.{how_many}
use Rattle.graph.specs.Rows.{kept, gives, row_of, rows_of, links_of, sum_from, degree}
use Rattle.queue.specs.Waiting.{taken, answer, offered, better, best_from, next, adapted}
use Rattle.rules.specs.Ways.{effective, transition, share_of, way_of, over, degree_of}
use Rattle.rules.specs.Rules.{each, blank, queued, gain, absorb, threshold_after, counted, offer, pass, hand_out, push, stops, goes_on, due, skips, visit, turn, onward, run}
use Rattle.rules.specs.Rules.{inside, watchable, begun, start, enough, solve}
use Rattle.rules.specs.Answers.{visited_count}
use Rattle.job_fields.specs.Fields.{number, word_at, float_at, words_at, floats_at}
use Rattle.job_fields.specs.Shape.{shaped}
use Rattle.job_fields.specs.Cases.{chain_job}
use Rattle.job_text.specs.Text.{digit_count, decimal, bits, refused_line, done_line, node_line, node_lines}
use Rattle.job_answer.specs.Printed.{settings_in, job_in, refusal, end, refused_or, prints}

-- P1's text
unfoldable pub chain_text : List ℕ
chain_text =
    done_line 3 2 (f64 0x3fc0_0000_0000_0000)
    ++ node_lines 0 (f64 0x3fe0_0000_0000_0000 ∷ f64 0x3fd8_0000_0000_0000 ∷ []) (+0 ∷ f64 0x3fc0_0000_0000_0000 ∷ [])

-- P1 with one byte exchanged: link offset 57, weight -1, alpha 32,768
abbrev beside : List ℕ → List ℕ
beside bytes = set bytes 16 57

abbrev below : List ℕ → List ℕ
below bytes = set bytes 71 191

abbrev above : List ℕ → List ℕ
above bytes = set bytes 31 64

-- the list
pub record Printed : Type 0 where
  pub chain : prints chain_job chain_text
  -- each number that a job can be refused with
  pub wrong_shape : prints (beside chain_job) (refused_line 8)
  pub wrong_weight : prints (below chain_job) (refused_line 5)
  pub wrong_alpha : prints (above chain_job) (refused_line 6)
  -- their order
  pub shape_first : prints (beside (below chain_job)) (refused_line 8)
  pub weight_second : prints (below (above chain_job)) (refused_line 5)

-- the list holds
pub printed : Printed
unfolding chain_text if◌then◌otherwise◌ tabulate how_many kept gives row_of rows_of links_of sum_from degree taken answer offered better best_from next usual adapted effective transition share_of way_of over degree_of each blank queued gain absorb threshold_after counted offer pass hand_out push stops goes_on due skips visit turn onward run inside watchable begun start enough solve any lengths_differ visited_count add_squares of_bits to_bits of_int add sub mul div lt le odd chain_job shaped number word_at float_at words_at floats_at settings_in job_in refusal end refused_or ◌or◌ ◌when◌ refuse_nodes refuse_links refuse_listed refuse_lengths refuse_weights refuse_alpha refuse_adaptive refuse_settings digit_count decimal bits refused_line done_line node_line node_lines
printed =
    record {
      chain =
          record {
            norm = f64 0x3fc0_0000_0000_0000;
            is_norm = λ _. record { q = 2 ^ 52; k = 1019; is = refl; near = record { from = lit≤ tt; to = lit< tt; over = lit< tt; under = lit< tt } };
            is_text = refl;
          };
      wrong_shape = record { norm = +0; is_norm = λ h. absurd (omega arith); is_text = refl };
      wrong_weight = record { norm = +0; is_norm = λ h. absurd (omega arith); is_text = refl };
      wrong_alpha = record { norm = +0; is_norm = λ h. absurd (omega arith); is_text = refl };
      shape_first = record { norm = +0; is_norm = λ h. absurd (omega arith); is_text = refl };
      weight_second = record { norm = +0; is_norm = λ h. absurd (omega arith); is_text = refl };
    }
