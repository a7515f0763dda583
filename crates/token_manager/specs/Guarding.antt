-- Which pass guards what retired at an event. Tokens are a list by pass: the number of the event that opened the pass's token,
-- where it has one open.
use Rattle.std.specs.Prelude.{ℕ, ◌<◌, ◌≤◌, ◌≡◌, ◌==◌, ⊤, Bool, false, nat_le, min, if◌then◌else◌, List, Option, Some, None, MatchOption, slice_index_or}

-- the pass has a token open that this event opened
abbrev pub HasOpened : List (Option ℕ) → ℕ → ℕ → Type 0
HasOpened tokens pass event = slice_index_or tokens pass None ≡ Some event

-- the pass is the lowest whose token was opened before the retirement, and this event opened it
pub record IsLowestBefore (tokens : List (Option ℕ)) (retired_at pass event : ℕ) : Type 0 where
  pub opened : HasOpened tokens pass event
  pub before : event < retired_at
  pub lowest : (lower other : ℕ) → lower < pass → HasOpened tokens lower other → other < retired_at → ⊥

-- no token was opened before the retirement
abbrev pub NoneBefore : List (Option ℕ) → ℕ → Type 0
NoneBefore tokens retired_at = (pass event : ℕ) → HasOpened tokens pass event → event < retired_at → ⊥

-- no pass has a token open
abbrev pub NoneOpen : List (Option ℕ) → Type 0
NoneOpen tokens = (pass event : ℕ) → HasOpened tokens pass event → ⊥

-- this event opened some pass's token, and no token that is open was opened before it
pub record IsOldest (tokens : List (Option ℕ)) (event : ℕ) : Type 0 where
  pub pass : ℕ
  pub opened : HasOpened tokens pass event
  pub oldest : (other later : ℕ) → HasOpened tokens other later → event ≤ later

-- the older of two tokens, where there are such
abbrev pub older : Option ℕ → Option ℕ → Option ℕ
older None token = token
older (Some first) None = Some first
older (Some first) (Some second) = Some (min first second)

-- the find that this event began may ask for a document that one event put into its column and a later one took off: it began between them
pub record MayAsk (tokens : List (Option ℕ)) (since until pass event : ℕ) : Type 0 where
  pub opened : HasOpened tokens pass event
  pub after : since < event
  pub before : event < until

-- no find that is open may ask for it
abbrev pub NoneMayAsk : List (Option ℕ) → ℕ → ℕ → Type 0
NoneMayAsk tokens since until = (pass event : ℕ) → MayAsk tokens since until pass event → ⊥

-- the pass has the newest of the finds that may ask for it
pub record IsNewestAsker (tokens : List (Option ℕ)) (since until pass : ℕ) : Type 0 where
  pub event : ℕ
  pub may_ask : MayAsk tokens since until pass event
  pub newest : (other later : ℕ) → MayAsk tokens since until other later → later ≤ event

-- the event comes before another, where there is one
abbrev pub IsWithin : Option ℕ → ℕ → Type 0
IsWithin None event = ⊤
IsWithin (Some until) event = event < until

-- this event opened the pass's token, and none of those that were opened before another event was opened later
pub record IsNewestWithin (tokens : List (Option ℕ)) (until : Option ℕ) (pass event : ℕ) : Type 0 where
  pub opened : HasOpened tokens pass event
  pub within : IsWithin until event
  pub newest : (other later : ℕ) → HasOpened tokens other later → IsWithin until later → later ≤ event

-- the newest of the tokens that were opened before an event, with its pass, where there is one
abbrev pub IsNewestIn : List (Option ℕ) → Option ℕ → Option (ℕ × ℕ) → Type 0
IsNewestIn tokens until newest =
    MatchOption newest ((pass event : ℕ) → HasOpened tokens pass event → IsWithin until event → ⊥) (λ n. IsNewestWithin tokens until n.0 n.1)

-- the newer of a token, where there is one, and another
abbrev pub newer : Option (ℕ × ℕ) → ℕ → ℕ → Option (ℕ × ℕ)
newer None pass event = Some (pass, event)
newer (Some newest) pass event = if nat_le event newest.1 then Some newest else Some (pass, event)

-- whether it is the pass's
abbrev pub is_of : Option (ℕ × ℕ) → ℕ → Bool
is_of None pass = false
is_of (Some newest) pass = newest.0 == pass
