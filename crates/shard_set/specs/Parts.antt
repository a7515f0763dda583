-- Lists of adds and deletes, parted among shards by the words of their documents.
use Rattle.std.specs.Prelude.{ℕ, zero, suc, ◌*◌, ◌^◌, ◌<◌, ◌≤◌, ◌≡◌, ◌⊎◌, ◌==◌, Bool, true, false, nat_le, List, [], ◌∷◌, ◌++◌, Option, Some, None, if◌then◌else◌}
use Rattle.std.specs.Option.{option_map, option_map_or}
use Rattle.std.specs.Set.{distinct_count}
use Rattle.std.specs.Str.{bytes_eq}
use Rattle.funnel_model.specs.declared.event.Event.{Event}
use Rattle.funnel_model.specs.declared.event.Event.TheVariants as event
use Rattle.funnel_model.specs.History.{document_with, is_live}
use Rattle.funnel_model.specs.Words.{words}

-- of so many shards, the greatest but the first for which a document has words enough, and else the first: the shard k takes documents of
-- twice the kth power of four distinct words and more
unfoldable pub shard_for : ℕ → ℕ → ℕ
shard_for zero words = 0
shard_for (suc k) words = if nat_le (2 * 4 ^ k) words then k else shard_for k words

-- how many distinct words a text has
abbrev pub distinct_words : List ℕ → ℕ
distinct_words text = distinct_count bytes_eq (words text)

-- the shard that a document with this text goes to
abbrev pub shard_of : ℕ → List ℕ → ℕ
shard_of shards text = shard_for shards (distinct_words text)

-- this is that shard, in other words
pub record IsShardFor (shards words shard : ℕ) : Type 0 where
  pub in_range : shard < shards
  pub enough : (shard ≡ 0) ⊎ (2 * 4 ^ shard ≤ words)
  pub greatest : (other : ℕ) → shard < other → other < shards → words < 2 * 4 ^ other

-- the shard of an add or a delete that comes after these: an add goes where its text does, and a delete where the text of the live document does
abbrev pub goes_to : ℕ → List Event → Event → Option ℕ
goes_to shards before (event.Add pass id text slice column bits) = Some (shard_of shards text)
goes_to shards before (event.Del pass id) = option_map (λ d. shard_of shards d.text) (document_with id before)
goes_to shards before _ = None

-- whether it is this one
abbrev pub goes_at : ℕ → ℕ → List Event → Event → Bool
goes_at shards shard before e = option_map_or (λ (k : ℕ). k == shard) (goes_to shards before e) false

-- those of the later events that go to the shard
abbrev pub part_from : ℕ → ℕ → List Event → List Event → List Event
part_from shards shard before [] = []
part_from shards shard before (e ∷ later) =
    (if goes_at shards shard before e then e ∷ [] else []) ++ part_from shards shard (before ++ e ∷ []) later

-- the adds and deletes of the list that go to the shard, in order
abbrev pub part : ℕ → List Event → ℕ → List Event
part shards list shard = part_from shards shard [] list

-- an add or a delete may come after these: an add of a number that is not live, or a delete of one that is
abbrev pub MayCome : List Event → Event → Type 0
MayCome before (event.Add pass id text slice column bits) = is_live id before ≡ false
MayCome before (event.Del pass id) = is_live id before ≡ true
MayCome before _ = ⊥

abbrev pub GoOn : List Event → List Event → Type 0
GoOn before [] = Unit {0}
GoOn before (e ∷ later) = MayCome before e × GoOn (before ++ e ∷ []) later

-- a list of adds and deletes of which each might come
abbrev pub AreCommits : List Event → Type 0
AreCommits list = GoOn [] list
