-- The bytes in a reader's buffer.
use Rattle.std.specs.Prelude.{◌≡◌, ◌≤◌, ℕ, List, length, slice_range}
use Rattle.funnel_io.specs.Lines.{HasNoNewline}
use Rattle.funnel_io.specs.declared.line_buffer.TheConstants.{CAPACITY}

-- the line that was taken last, the bytes that are held, and how many more fit behind them
pub record HeldBytes : Type 0 where
  pub line : List ℕ
  pub bytes : List ℕ
  pub room : ℕ

-- where the line and the bytes stand in the buffer; no newline is among the bytes that were searched
pub record IsInPlace (buffer : List ℕ) (line_start line_end start searched end : ℕ) : Type 0 where
  pub size : length buffer ≡ CAPACITY
  pub line : line_start ≤ line_end
  pub line_within : line_end ≤ length buffer
  pub in_order : start ≤ searched
  pub not_past_end : searched ≤ end
  pub within : end ≤ length buffer
  pub clean : HasNoNewline (slice_range buffer start searched)
