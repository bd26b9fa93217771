-- Paper 01's whole case, from text to text.
use Rattle.std.specs.Prelude.{ℕ, ◌≡◌, refl, List, [], ◌∷◌}
use Rattle.integers.specs.Compare.{eq_ℤ}
use Rattle.lists.specs.Search.{find, any, find_pair}
use Rattle.lists.specs.Collect.{collect, cross}
use Rattle.lists.specs.Counting.{count}
use Rattle.lists.specs.Tabulate.{tabulate, select}
use Rattle.closure.specs.Facts.{facts}
use Rattle.closure.specs.Join.{placed, own, link, join, total}
use Rattle.closure.specs.Closure.{derefs, is_same_address, unjoined, join_all, close, rounds, closure}
use Rattle.closure.specs.Verdict.{holds, together, clash, conflicting, contradictory}
use Rattle.closure.specs.Differences.{classes_are, apart, is_other_offset, between, unequal, different_at, values_differ, addresses_differ, draws, draw, undrawn, twos, drawn, different}
use Rattle.outcome.specs.PairBits.{number, pair_bit, pair_bits}
use Rattle.outcome.specs.Outcome.{outcome, satisfiable, answer}
use Rattle.tables.specs.Records.{offset_in_range, atom_record, term_of, proposition_of, is_same_atom}
use Rattle.tables.specs.Refusals.{term_name_fault, proposition_name_fault, question_name_fault}
use Rattle.text.specs.Lines.{lines_of, digit, bytes_of, big, signed, unsigned, digit_of_value, hex_of, bytes}
use Rattle.text.specs.Frames.{layouts, frame_by, frame_of}
use Rattle.text.specs.Reading.{frame_fault, with_frame, step, read_lines, reading}
use Rattle.text.specs.Output.{label_frames, cell_frames, outcome_frames, solved, output}

unfoldable pub input : List ℕ
input =
    -- 010001
    48 ∷ 49 ∷ 48 ∷ 48 ∷ 48 ∷ 49 ∷ 10 ∷
    -- 020001
    48 ∷ 50 ∷ 48 ∷ 48 ∷ 48 ∷ 49 ∷ 10 ∷
    -- 03000000000000
    48 ∷ 51 ∷ 48 ∷ 48 ∷ 48 ∷ 48 ∷ 48 ∷ 48 ∷ 48 ∷ 48 ∷ 48 ∷ 48 ∷ 48 ∷ 48 ∷ 10 ∷
    -- 03000100000004
    48 ∷ 51 ∷ 48 ∷ 48 ∷ 48 ∷ 49 ∷ 48 ∷ 48 ∷ 48 ∷ 48 ∷ 48 ∷ 48 ∷ 48 ∷ 52 ∷ 10 ∷
    -- 110001FFFFFFFC0000
    49 ∷ 49 ∷ 48 ∷ 48 ∷ 48 ∷ 49 ∷ 70 ∷ 70 ∷ 70 ∷ 70 ∷ 70 ∷ 70 ∷ 70 ∷ 67 ∷ 48 ∷ 48 ∷ 48 ∷ 48 ∷ 10 ∷
    -- 210003000000000002
    50 ∷ 49 ∷ 48 ∷ 48 ∷ 48 ∷ 51 ∷ 48 ∷ 48 ∷ 48 ∷ 48 ∷ 48 ∷ 48 ∷ 48 ∷ 48 ∷ 48 ∷ 48 ∷ 48 ∷ 50 ∷ 10 ∷
    -- 210000000000040001
    50 ∷ 49 ∷ 48 ∷ 48 ∷ 48 ∷ 48 ∷ 48 ∷ 48 ∷ 48 ∷ 48 ∷ 48 ∷ 48 ∷ 48 ∷ 52 ∷ 48 ∷ 48 ∷ 48 ∷ 49 ∷ 10 ∷
    -- 210000000000000001
    50 ∷ 49 ∷ 48 ∷ 48 ∷ 48 ∷ 48 ∷ 48 ∷ 48 ∷ 48 ∷ 48 ∷ 48 ∷ 48 ∷ 48 ∷ 48 ∷ 48 ∷ 48 ∷ 48 ∷ 49 ∷ 10 ∷
    -- 210002000000000000
    50 ∷ 49 ∷ 48 ∷ 48 ∷ 48 ∷ 50 ∷ 48 ∷ 48 ∷ 48 ∷ 48 ∷ 48 ∷ 48 ∷ 48 ∷ 48 ∷ 48 ∷ 48 ∷ 48 ∷ 48 ∷ 10 ∷
    []

unfoldable pub written : List ℕ
written =
    -- A000
    65 ∷ 48 ∷ 48 ∷ 48 ∷ 10 ∷
    -- A1000000000000000000000000
    65 ∷ 49 ∷ 48 ∷ 48 ∷ 48 ∷ 48 ∷ 48 ∷ 48 ∷ 48 ∷ 48 ∷ 48 ∷ 48 ∷ 48 ∷ 48 ∷ 48 ∷ 48 ∷ 48 ∷ 48 ∷ 48 ∷ 48 ∷ 48 ∷ 48 ∷ 48 ∷ 48 ∷ 48 ∷ 48 ∷ 10 ∷
    -- A100010000FFFFFFFFFFFFFFFC
    65 ∷ 49 ∷ 48 ∷ 48 ∷ 48 ∷ 49 ∷ 48 ∷ 48 ∷ 48 ∷ 48 ∷ 70 ∷ 70 ∷ 70 ∷ 70 ∷ 70 ∷ 70 ∷ 70 ∷ 70 ∷ 70 ∷ 70 ∷ 70 ∷ 70 ∷ 70 ∷ 70 ∷ 70 ∷ 67 ∷ 10 ∷
    -- A1000200020000000000000000
    65 ∷ 49 ∷ 48 ∷ 48 ∷ 48 ∷ 50 ∷ 48 ∷ 48 ∷ 48 ∷ 50 ∷ 48 ∷ 48 ∷ 48 ∷ 48 ∷ 48 ∷ 48 ∷ 48 ∷ 48 ∷ 48 ∷ 48 ∷ 48 ∷ 48 ∷ 48 ∷ 48 ∷ 48 ∷ 48 ∷ 10 ∷
    -- A1000300020000000000000000
    65 ∷ 49 ∷ 48 ∷ 48 ∷ 48 ∷ 51 ∷ 48 ∷ 48 ∷ 48 ∷ 50 ∷ 48 ∷ 48 ∷ 48 ∷ 48 ∷ 48 ∷ 48 ∷ 48 ∷ 48 ∷ 48 ∷ 48 ∷ 48 ∷ 48 ∷ 48 ∷ 48 ∷ 48 ∷ 48 ∷ 10 ∷
    -- A3000001
    65 ∷ 51 ∷ 48 ∷ 48 ∷ 48 ∷ 48 ∷ 48 ∷ 49 ∷ 10 ∷
    -- A3000101
    65 ∷ 51 ∷ 48 ∷ 48 ∷ 48 ∷ 49 ∷ 48 ∷ 49 ∷ 10 ∷
    -- A3000202
    65 ∷ 51 ∷ 48 ∷ 48 ∷ 48 ∷ 50 ∷ 48 ∷ 50 ∷ 10 ∷
    -- A3000300
    65 ∷ 51 ∷ 48 ∷ 48 ∷ 48 ∷ 51 ∷ 48 ∷ 48 ∷ 10 ∷
    []

pub whole_case : output input ≡ written
unfolding input written output outcome_frames label_frames cell_frames solved reading read_lines step frame_fault with_frame frame_of frame_by layouts
    lines_of digit bytes_of big signed unsigned digit_of_value hex_of bytes
    term_name_fault proposition_name_fault question_name_fault offset_in_range atom_record term_of proposition_of is_same_atom
    outcome satisfiable answer pair_bits pair_bit number
    contradictory conflicting holds together clash different drawn twos undrawn draw draws addresses_differ values_differ different_at unequal between is_other_offset apart classes_are
    closure close rounds join_all unjoined is_same_address derefs join link placed own total facts eq_ℤ find any find_pair collect cross count tabulate select
whole_case = refl
