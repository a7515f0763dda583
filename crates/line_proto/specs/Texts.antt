-- The lines that replies are written as.
use Rattle.std.specs.Prelude.{ℕ, Bool, true, false, ◌==◌, List, ◌∷◌, ◌++◌, length, flat_map, codes, decimal, if◌then◌else◌}
use Rattle.std.specs.List.{list_any}
use Rattle.funnel_model.specs.declared.commit.Commit.{Commit}
use Rattle.funnel_model.specs.declared.reply.Reply.{Reply}
use Rattle.funnel_model.specs.declared.reply.Reply.TheVariants.{Added, Replaced, Present, Full, Deleted, Absent, Found, Count, FoundSome, Text, Place, Commits, Trimmed, Stats, Recycled, NothingRetired, Guarded, Tuned, Tuning, Wide, Query, Deep, Spent, Memory, Line, Long}

-- each number after a space
abbrev pub spaced : List ℕ → List ℕ
spaced ids = flat_map (λ id. 32 ∷ decimal id) ids

-- how many numbers there are, and then each of them
abbrev pub counted_ids : List ℕ → List ℕ
counted_ids ids = decimal (length ids) ++ spaced ids

-- a commit after a space: a plus for an add or a minus for a delete, and the document's number
abbrev pub signed : Commit → List ℕ
signed commit = 32 ∷ (if commit.add then 43 else 45) ∷ decimal commit.id

-- how many commits there are, and then each of them
abbrev pub counted_commits : List Commit → List ℕ
counted_commits commits = decimal (length commits) ++ flat_map signed commits

-- a newline stands in the text
abbrev pub has_newline : List ℕ → Bool
has_newline text = list_any (λ byte. byte == 10) text

-- how many documents and commits there are, each number after its word
abbrev pub kept_numbers : ℕ → ℕ → ℕ → List ℕ
kept_numbers documents place base = codes "stats documents " ++ (decimal documents ++ (codes " place " ++ (decimal place ++ (codes " base " ++ decimal base))))

-- how much room there is and what uses it, each number after its word
abbrev pub room_numbers : ℕ → ℕ → ℕ → ℕ → List ℕ
room_numbers columns free retired finds =
    codes " columns " ++ (decimal columns ++ (codes " free " ++ (decimal free ++ (codes " retired " ++ (decimal retired ++ (codes " finds " ++ decimal finds))))))

-- the words and numbers of a reply
abbrev pub message_of : Reply → List ℕ
message_of (Added place) = codes "added " ++ decimal place
message_of (Replaced place) = codes "replaced " ++ decimal place
message_of (Present place) = codes "refused present " ++ decimal place
message_of Full = codes "refused full"
message_of (Deleted place) = codes "deleted " ++ decimal place
message_of Absent = codes "refused absent"
message_of (Found ids) = codes "found " ++ counted_ids ids
message_of (Count count) = codes "count " ++ decimal count
message_of (FoundSome count ids) = codes "found " ++ (decimal count ++ spaced ids)
message_of (Text place text) = if has_newline text then codes "refused text" else codes "text " ++ (decimal place ++ 32 ∷ text)
message_of (Place place) = codes "place " ++ decimal place
message_of (Commits commits) = codes "commits " ++ counted_commits commits
message_of (Trimmed base) = codes "refused trimmed " ++ decimal base
message_of (Stats s) = kept_numbers s.documents s.place s.base ++ room_numbers s.columns s.free s.retired s.finds
message_of (Recycled slice) = codes "recycled " ++ decimal slice
message_of NothingRetired = codes "nothing retired"
message_of (Guarded slice pass) = codes "guarded " ++ decimal slice ++ 32 ∷ decimal pass
message_of (Tuned count) = codes "tuned " ++ decimal count
message_of (Tuning fault) = codes "refused tuning " ++ decimal fault
message_of (Wide needed room) = codes "refused room " ++ decimal needed ++ 32 ∷ decimal room
message_of (Query at) = codes "refused query " ++ decimal at
message_of (Deep at) = codes "refused deep " ++ decimal at
message_of Spent = codes "refused spent"
message_of Memory = codes "refused memory"
message_of Line = codes "refused line"
message_of Long = codes "refused long"

-- the reply's line, with the newline at its end
abbrev pub text_of : Reply → List ℕ
text_of reply = message_of reply ++ codes "\n"

-- the lines of the replies, in their order
abbrev pub texts : List Reply → List ℕ
texts replies = flat_map text_of replies

-- the reply's line may be of any length
abbrev pub is_list : Reply → Bool
is_list (Found ids) = true
is_list (FoundSome count ids) = true
is_list (Text place text) = true
is_list (Commits commits) = true
is_list _ = false
