-- The text of a configuration.
use Rattle.std.specs.Prelude.{ℕ, ◌==◌, List, [], ◌∷◌, ◌++◌, if◌then◌else◌}
use Rattle.funnel_model.specs.declared.config.Config.{Config}
use Rattle.serde_json.specs.Data.{Data, Members, unsigned, number, object, no_members, member}
use Rattle.serde_json.specs.Written.{compact_text}
use Rattle.funnel_stats.specs.Keys.{name_of, range_of}
use Rattle.funnel_stats.specs.declared.key.Key.TheVariants.{Passes, Slices, MaxRank, Reserve, Documents, Tail, Private, Words}

-- a whole number
abbrev pub whole : ℕ → Data
whole n = number (unsigned n)

-- the listed words with their counts
abbrev pub members_of_words : List (List ℕ × ℕ) → Members
members_of_words [] = no_members
members_of_words (entry ∷ entries) = member entry.0 (whole entry.1) (members_of_words entries)

-- the member of the key `private`, which is left out where it is the default, before others
abbrev pub private_before : ℕ → Members → Members
private_before p others = if p == (range_of Private).default then others else member (name_of Private) (whole p) others

-- the keys that are written, in byte order; the others have their defaults
unfoldable pub members_of : Config → Members
members_of config =
    member (name_of Documents) (whole config.documents)
    (member (name_of MaxRank) (whole config.max_rank)
    (member (name_of Passes) (whole config.passes)
    (private_before config.private
    (member (name_of Reserve) (whole config.reserve)
    (member (name_of Slices) (whole config.slices)
    (member (name_of Tail) (whole config.tail)
    (member (name_of Words) (object (members_of_words config.words)) no_members)))))))

-- one JSON object, and a newline
unfoldable pub text_of : Config → List ℕ
text_of config = compact_text (object (members_of config)) ++ 10 ∷ []
