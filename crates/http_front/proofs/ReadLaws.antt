-- Reads into a buffer, one after another.
use Rattle.std.proofs.Common.{◌≡◌, ℕ, ◌<◌, ◌≤◌, List, [], ◌++◌, length, sym, ap, ◌∙◌, subst, arith, append-nil, append_assoc, length-append, Result, Ok, Err, IfErr}
use Rattle.std.specs.Result.{IsErrAnd}
use Rattle.funnel_io.proofs.Taking.{Takes-nil, Takes-trans}
use Rattle.funnel_io.specs.Streams.{Incoming}
use Rattle.funnel_io.specs.declared.end.End.{End}
use Rattle.http_front.specs.Entries.{HasNoEntry}
use Rattle.http_front.specs.Steps.{HasRead, IsUndecided, StopsUndecided}

-- nothing was read
pub read_none : (now : Incoming) (held : List ℕ) (may : ℕ) → HasRead now now held held may may
read_none now held may = record { bytes = []; takes = Takes-nil now; grown = sym (append-nil held); count = omega arith }

-- more was read
pub read_more : (first between now : Incoming) (held held' held'' : List ℕ) (may may' may'' : ℕ) → HasRead first between held held' may may' → HasRead between now held' held'' may' may''
    → HasRead first now held held'' may may''
read_more first between now held held' held'' may may' may'' one two = record {
  bytes = one.bytes ++ two.bytes;
  takes = Takes-trans first between now one.bytes two.bytes one.takes two.takes;
  grown = two.grown ∙ ap (λ bs. bs ++ two.bytes) one.grown ∙ append_assoc held one.bytes two.bytes;
  count = omega (arith, one.count, two.count, length-append one.bytes two.bytes);
}

-- a read that gave no bytes leaves what is held
pub read_nothing : (before now : Incoming) (held held' : List ℕ) (may may' : ℕ) → HasRead before now held held' may may' → may' ≡ may → length held' ≡ length held
read_nothing before now held held' may may' one same = omega (arith, one.count, same, ap length one.grown, length-append held one.bytes)

-- where so many bytes are held now, fewer may be read
pub read_some : (before now : Incoming) (held held' : List ℕ) (may may' least : ℕ) → HasRead before now held held' may may' → length held < least → least ≤ length held' → may' < may
read_some before now held held' may may' least one few many = omega (arith, one.count, few, many, ap length one.grown, length-append held one.bytes)

-- reads that stop before so many bytes are held stop before anything is decided
pub stops_undecided : (first between now : Incoming) (held held' held'' : List ℕ) (may may' may'' least limit : ℕ) (end : End) → HasRead first between held held' may may'
    → between.faults ≡ first.faults → IsUndecided held' least → StopsUndecided (λ bytes. length bytes < least) limit end between now held' held'' may' may''
    → StopsUndecided HasNoEntry limit end first now held held'' may may''
stops_undecided first between now held held' held'' may may' may'' least limit end one same undecided stops = record {
  read = read_more first between now held held' held'' may may' may'' one stops.read;
  undecided = subst HasNoEntry (sym stops.read.grown) (undecided.none stops.read.bytes (subst (λ (bs : List ℕ). length bs < least) stops.read.grown stops.undecided));
  stopped = stops.stopped;
  faults = rw same at stops.faults;
}

-- what holds of the end with which a call failed holds of the one that is handed on
pub handed_on : {X : Type 0} (Q : End → Type 0) (r : Result X End) (end : End) → IsErrAnd r (λ e. e ≡ end) → Q end → IfErr r Q
handed_on Q (Ok x) end is holds = absurd is
handed_on Q (Err e) end is holds = subst Q (sym is) holds
