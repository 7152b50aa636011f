-- What the wrapping subtract of 32-bit numbers gives is the ticks between two times.
-- Rests on the definition of `since` alone.
use Rattle.std.proofs.Common.{◌≡◌, ℕ, ◌+◌, ◌%◌, ◌^◌, ◌<◌, arith}
use Rattle.model.specs.Task.{since}

-- r is what, added to e, wraps to the time
pub wraps : (r e time : ℕ) → r < 2 ^ 32 → e < 2 ^ 32 → (r + e) % 2 ^ 32 ≡ time → r ≡ since e time
unfolding since
wraps r e time h g f = omega arith
