-- What a session writes for the bytes that it takes.
use Rattle.std.specs.Prelude.{◌≡◌, ◌<◌, ℕ, true, false, List, [], ◌∷◌, ◌++◌, length, take}
use Rattle.funnel_io.specs.declared.end.End.{End}
use Rattle.funnel_io.specs.declared.end.End.TheVariants as end_of
use Rattle.funnel_model.specs.declared.event.Event.{Event}
use Rattle.funnel_model.specs.declared.reply.Reply.{Reply}
use Rattle.funnel_model.specs.declared.reply.Reply.TheVariants as reply
use Rattle.line_proto.specs.Forms.{Item, Asks, Malformed, TooLong, items}
use Rattle.line_proto.specs.Services.{AnswersAsked, Caller}
use Rattle.line_proto.specs.Texts.{text_of, texts}

-- an item is answered: what is asked as a service answers it, and a line of no form or one that is too long by its refusal and no step
abbrev pub AnswersItem : Caller → List Event → Item → Reply → List Event → Type 0
AnswersItem caller before (Asks asked) given after = AnswersAsked caller before after asked given
AnswersItem caller before Malformed given after = (given ≡ reply.Line) × (before ≡ after)
AnswersItem caller before TooLong given after = (given ≡ reply.Long) × (before ≡ after)

-- the items are answered by these replies in order, one for each, from front to front
abbrev pub Answers : Caller → List Event → List Item → List Reply → List Event → Type 0
Answers caller before [] [] after = before ≡ after
Answers caller before (item ∷ items) (given ∷ replies) after =
    (middle : List Event) × AnswersItem caller before item given middle × Answers caller middle items replies after
Answers caller before [] (given ∷ replies) after = ⊥
Answers caller before (item ∷ items) [] after = ⊥

-- every item is answered, and the text of the replies is written
pub record AnswersAll (caller : Caller) (before after : List Event) (asked : List Item) (written : List ℕ) : Type 0 where
  pub replies : List Reply
  pub answers : Answers caller before asked replies after
  pub text : written ≡ texts replies

-- the text of the replies is written but for some bytes at the end of the last one's
pub record CutsLast (replies : List Reply) (written : List ℕ) : Type 0 where
  pub first : List Reply
  pub last : Reply
  pub replies_are : replies ≡ first ++ last ∷ []
  pub count : ℕ
  pub proper : count < length (text_of last)
  pub text : written ≡ texts first ++ take count (text_of last)

-- only the first items are answered, and a write of the last one's reply failed
pub record AnswersSome (caller : Caller) (before after : List Event) (asked : List Item) (written : List ℕ) : Type 0 where
  pub first : List Item
  pub others : List Item
  pub asked_are : asked ≡ first ++ others
  pub replies : List Reply
  pub answers : Answers caller before first replies after
  pub text : CutsLast replies written

-- what a session takes and writes, by how it ends, and the fronts of its pass before and after it
abbrev pub Session : Caller → List Event → List Event → List ℕ → List ℕ → End → Type 0
Session caller before after taken written end_of.Done = AnswersAll caller before after (items taken true) written
Session caller before after taken written end_of.ReadFault = AnswersAll caller before after (items taken false) written
Session caller before after taken written (end_of.ByteLimit limit) =
    (length taken ≡ limit) × AnswersAll caller before after (items taken false) written
Session caller before after taken written end_of.WriteFault = AnswersSome caller before after (items taken true) written
Session caller before after taken written end_of.Memory = (taken ≡ []) × (written ≡ []) × (after ≡ before)
