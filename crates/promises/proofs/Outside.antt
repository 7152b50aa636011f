-- The table of public functions, from text to what callers in other languages have: a row cites a function's contract, that the function keeps it, and the law by which it is tight.
-- Rests on the generated modules of the crates named below, and on Laws.
use mathlib.Core.List.{List, [], ◌∷◌}
use Rattle.text.specs.contracts as text
use Rattle.text.proofs as kept_text
use Rattle.services.specs.contracts as services
use Rattle.services.proofs as kept_services
use Rattle.border.specs.contracts as border
use Rattle.border.proofs as kept_border
use Rattle.lines.specs.contracts as lines
use Rattle.lines.proofs as kept_lines
use Rattle.walk.specs.contracts as walk
use Rattle.walk.proofs as kept_walk
use Rattle.answers.specs.contracts as answers
use Rattle.answers.proofs as kept_answers
use Rattle.runner.specs.contracts as runner
use Rattle.runner.proofs as kept_runner
use Rattle.gritgarland.specs.contracts as gritgarland
use Rattle.gritgarland.proofs as kept_gritgarland
use Rattle.walk.specs.Turn.{turn_in}
use Rattle.promises.specs.Tight.{Promise}
use Rattle.promises.proofs.Laws.{of, plain, result, bounded, both, besides, answer, answers}

pub of_text : List Promise
of_text =
    of text.decimals.width.signature (λ M 𝓤 𝓛. text.decimals.width.clauses 𝓛) _ (λ M. kept_text.decimals.width.Met.met) (λ w κs a g h o p. plain w result) ∷
    of text.decimals.put_decimal.signature (λ M 𝓤 𝓛. text.decimals.put_decimal.clauses 𝓛) _ (λ M. kept_text.decimals.put_decimal.Met.met) (λ w κs a g h o p. plain w both) ∷
    of text.number.read_number.signature (λ M 𝓤 𝓛. text.number.read_number.clauses 𝓛) _ (λ M. kept_text.number.read_number.Met.met) (λ w κs a g h o p. plain w result) ∷
    of text.words.byte_at.signature (λ M 𝓤 𝓛. text.words.byte_at.clauses 𝓛) _ (λ M. kept_text.words.byte_at.Met.met) (λ w κs a g h o p. plain w result) ∷
    of text.words.begins.signature (λ M 𝓤 𝓛. text.words.begins.clauses 𝓛) _ (λ M. kept_text.words.begins.Met.met) (λ w κs a g h o p. plain w result) ∷
    of text.words.has_room.signature (λ M 𝓤 𝓛. text.words.has_room.clauses 𝓛) _ (λ M. kept_text.words.has_room.Met.met) (λ w κs a g h o p. plain w result) ∷
    of text.words.put_text.signature (λ M 𝓤 𝓛. text.words.put_text.clauses 𝓛) _ (λ M. kept_text.words.put_text.Met.met) (λ w κs a g h o p. plain w both) ∷
    of text.words.put_byte.signature (λ M 𝓤 𝓛. text.words.put_byte.clauses 𝓛) _ (λ M. kept_text.words.put_byte.Met.met) (λ w κs a g h o p. plain w both) ∷
    []

pub of_services : List Promise
of_services =
    of services.calls.call_of.signature (λ M 𝓤 𝓛. services.calls.call_of.clauses 𝓛) _ (λ M. kept_services.calls.call_of.Met.met) (λ w κs a g h o p. plain w result) ∷
    of services.names.read_name.signature (λ M 𝓤 𝓛. services.names.read_name.clauses 𝓛) _ (λ M. kept_services.names.read_name.Met.met) (λ w κs a g h o p. plain w result) ∷
    of services.takes.takes_at.signature (λ M 𝓤 𝓛. services.takes.takes_at.clauses 𝓛) _ (λ M. kept_services.takes.takes_at.Met.met) (λ w κs a g h o p. plain w result) ∷
    []

pub of_border : List Promise
of_border =
    of border.call_by_number.signature (λ M 𝓤 𝓛. border.call_by_number.clauses 𝓛) _ (λ M. kept_border.call_by_number.Met.met) (λ w κs a g h o p. plain w result) ∷
    []

pub of_lines : List Promise
of_lines =
    of lines.line.read_line.signature (λ M 𝓤 𝓛. lines.line.read_line.clauses 𝓛) _ (λ M. kept_lines.line.read_line.Met.met) (λ w κs a g h o p. plain w result) ∷
    of lines.line.read_header.signature (λ M 𝓤 𝓛. lines.line.read_header.clauses 𝓛) _ (λ M. kept_lines.line.read_header.Met.met) (λ w κs a g h o p. plain w result) ∷
    []

pub of_walk : List Promise
of_walk =
    of walk.play_line.signature (λ M 𝓤 𝓛. walk.play_line.clauses 𝓛) _ (λ M. kept_walk.play_line.Met.met) (λ w κs a g h o p. plain w (answers (λ t. t.turn) (λ t. t.state) (turn_in o.0 o.1.0) (turn_in p.0 p.1.0))) ∷
    []

pub of_answers : List Promise
of_answers =
    of answers.slot.signature (λ M 𝓤 𝓛. answers.slot.clauses 𝓛) _ (λ M. kept_answers.slot.Met.met) (λ w κs a g h o p. plain w result) ∷
    of answers.row_width.signature (λ M 𝓤 𝓛. answers.row_width.clauses 𝓛) _ (λ M. kept_answers.row_width.Met.met) (λ w κs a g h o p. plain w bounded) ∷
    of answers.put_row.signature (λ M 𝓤 𝓛. answers.put_row.clauses 𝓛) _ (λ M. kept_answers.put_row.Met.met) (λ w κs a g h o p. plain w both) ∷
    of answers.keep.signature (λ M 𝓤 𝓛. answers.keep.clauses 𝓛) _ (λ M. kept_answers.keep.Met.met) (λ w κs a g h o p. plain w result) ∷
    of answers.slot_kept.signature (λ M 𝓤 𝓛. answers.slot_kept.clauses 𝓛) _ (λ M. kept_answers.slot_kept.Met.met) (λ w κs a g h o p. plain w result) ∷
    of answers.runs_kept.signature (λ M 𝓤 𝓛. answers.runs_kept.clauses 𝓛) _ (λ M. kept_answers.runs_kept.Met.met) (λ w κs a g h o p. plain w result) ∷
    []

pub of_runner : List Promise
of_runner =
    of runner.run_list.signature (λ M 𝓤 𝓛. runner.run_list.clauses 𝓛) _ (λ M. kept_runner.run_list.Met.met) (λ w κs a g h o p. plain w answer) ∷
    []

pub of_gritgarland : List Promise
of_gritgarland =
    of gritgarland.gritgarland_call.signature (λ M 𝓤 𝓛. gritgarland.gritgarland_call.clauses 𝓛) _ (λ M. kept_gritgarland.gritgarland_call.Met.met) (λ w κs a g h o p. plain w result) ∷
    of gritgarland.gritgarland_call_in_place.signature (λ M 𝓤 𝓛. gritgarland.gritgarland_call_in_place.clauses 𝓛) _ (λ M. kept_gritgarland.gritgarland_call_in_place.Met.met) (λ w κs a g h o p. plain w besides) ∷
    of gritgarland.gritgarland_is_sound.signature (λ M 𝓤 𝓛. gritgarland.gritgarland_is_sound.clauses 𝓛) _ (λ M. kept_gritgarland.gritgarland_is_sound.Met.met) (λ w κs a g h o p. plain w result) ∷
    of gritgarland.gritgarland_wait_code.signature (λ M 𝓤 𝓛. gritgarland.gritgarland_wait_code.clauses 𝓛) _ (λ M. kept_gritgarland.gritgarland_wait_code.Met.met) (λ w κs a g h o p. plain w result) ∷
    of gritgarland.gritgarland_run_list.signature (λ M 𝓤 𝓛. gritgarland.gritgarland_run_list.clauses 𝓛) _ (λ M. kept_gritgarland.gritgarland_run_list.Met.met) (λ w κs a g h o p. plain w answer) ∷
    of gritgarland.run_list.signature (λ M 𝓤 𝓛. gritgarland.run_list.clauses 𝓛) _ (λ M. kept_gritgarland.run_list.Met.met) (λ w κs a g h o p. plain w answer) ∷
    []
