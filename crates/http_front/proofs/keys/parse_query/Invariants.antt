use denote.Shadow.{shadow}
use denote.Text.{Utf8}
use Rattle.std.proofs.Common.{◌≡◌, length}
use Rattle.std.specs.List.{slice_split}
use Rattle.http_front.specs.Routes.{is_ampersand, keys_in, keys_seen, with_pieces}
use Rattle.http_front.proofs.keys.parse_query.Given as goal

abbrev pub invariant-loop-piece : goal.invariant-loop-piece
invariant-loop-piece l = shadow (Utf8 l.left) × (keys_in l.query ≡ with_pieces (keys_seen l.keys) (slice_split is_ampersand l.left))

abbrev pub decreases-loop-piece : goal.decreases-loop-piece
decreases-loop-piece l = length l.left
