-- `sound_parts::record::task_sound` meets its contract: of a created task test by test.
-- Rests on Chains.
use borrow.Author.Tests.{ne_eqb}
use Rattle.model.specs.Test.{is_task_sound}
use Rattle.sound_parts.proofs.Chains.{eleven}
use Rattle.sound_parts.proofs.record.task_sound.Goals as goal

pub returns : goal.returns
unfolding is_task_sound
returns c = rw (
  eleven,
  c.is_spare_sound-spare_sound.ensures,
  c.is_ask_sound-ask_sound.ensures,
  c.is_wait_sound-wait_sound.ensures,
  c.is_resting-resting.ensures,
  c.is_wait_code-code_fits.ensures,
  c.is_within-priority_fits.ensures,
  c.is_within-base_fits.ensures,
  ne_eqb _ _ c.if-base-eq0.false,
)
