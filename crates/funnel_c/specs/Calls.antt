-- What the calls of C make of an index. Each is its call of an engine of one owner: the code and the numbers at its pointers tell the answer
-- of that, and what is kept for C is what it found.
use Rattle.std.specs.Prelude.{◌≡◌, ◌⊎◌, ℕ, Bool, List, [], Result, Ok, Err, drop, length}
use Rattle.std.specs.Str.{IsUtf8}
use Rattle.std.specs.declared.option.Option.{Option}
use Rattle.std.specs.declared.option.Option.TheVariants.{None, Some}
use Rattle.funnel_model.specs.declared.call.Call.{Call}
use Rattle.funnel_model.specs.declared.call.Call.TheVariants as call
use Rattle.funnel_model.specs.declared.commit.Commit.{Commit}
use Rattle.funnel_model.specs.declared.config.Config.{Config}
use Rattle.funnel_model.specs.declared.reply.Reply.{Reply}
use Rattle.funnel_model.specs.declared.reply.Reply.TheVariants as reply
use Rattle.funnel_model.specs.declared.stats.Stats.{Stats}
use Rattle.funnel_model.specs.Legal.{Limits}
use Rattle.funnel_model.specs.Sizes.{words_of_slice}
use Rattle.commit_desk.specs.declared.answers.AddFault.{AddFault}
use Rattle.commit_desk.specs.declared.answers.DeleteFault.{DeleteFault}
use Rattle.commit_desk.specs.declared.answers.FindFault.{FindFault}
use Rattle.commit_desk.specs.declared.answers.JournalFault.{JournalFault}
use Rattle.commit_desk.specs.declared.answers.Put.{Put}
use Rattle.commit_desk.specs.declared.answers.Spent.{Spent}
use Rattle.engine.specs.declared.getting.GetFault.{GetFault}
use Rattle.engine.specs.declared.putting.PutFault.{PutFault}
use Rattle.engine.specs.declared.querying.SearchFault.{SearchFault}
use Rattle.engine.specs.declared.querying.SomeFound.{SomeFound}
use Rattle.engine.specs.Adds.{AddTurns}
use Rattle.engine.specs.Finds.{FindTurns}
use Rattle.engine.specs.Gets.{GetTurn}
use Rattle.engine.specs.Passes.{MakesCall}
use Rattle.engine.specs.Puts.{PutTurns}
use Rattle.engine.specs.Replies.{reply_of_add, reply_of_delete, reply_of_find, reply_of_get, reply_of_journal, reply_of_place, reply_of_put, reply_of_stats}
use Rattle.engine.specs.Searches.{MakesQuery, MakesTold, QueryTurns, ToldTurns, first_of, last_of, reply_to_some}
use Rattle.engine.specs.Solos.{sole_pass, with_one_pass}
use Rattle.engine.specs.Turns.{DeleteTurn, JournalTurn, PlaceTurn, StatsTurn}
use Rattle.funnel_stats.specs.declared.fault.ConfigFault.{ConfigFault}
use Rattle.funnel_stats.specs.Configurations.{configuration}
use Rattle.funnel_stats.specs.FaultNumbers.{number_of_fault}
use Rattle.line_proto.specs.Forms.{Amount, First, Last, Told}
use Rattle.slice_rule.specs.Pools.{limits_of}
use Rattle.funnel_c.specs.declared.code.Code.{Code}
use Rattle.funnel_c.specs.declared.code.Code.TheVariants as code
use Rattle.funnel_c.specs.declared.index.Index.{Index}
use Rattle.funnel_c.specs.declared.numbers.Numbers.{Numbers}
use Rattle.funnel_c.specs.Answers.{bytes_of_get, code_of_add, code_of_delete, code_of_find, code_of_get, code_of_journal, code_of_put, code_of_search, code_of_spent, count_of, ids_of, ids_of_journal, ids_of_some, length_of_get, number_if_ok, number_of_count, number_of_journal, number_of_query, number_of_some, numbers_told, place_of_add, place_of_get, place_of_put, replaced_of_put, signs_of_journal, sought_by}
use Rattle.funnel_c.specs.Codes.{number_of}
use Rattle.funnel_c.specs.Copies.{copied}

-- what stood at a pointer of C's before a call, and what stands there after it
pub record Place (A : Type 0) : Type 0 where
  pub before : A
  pub after : A

abbrev pub became : {A : Type 0} → A → A → Place A
became before after = record { before = before; after = after }

-- the call left what stood there
abbrev pub Stays : {A : Type 0} → Place A → Type 0
Stays place = place.after ≡ place.before

-- the index is an empty one by this configuration
pub record IsNew (config : Config) (index : Index) : Type 0 where
  pub config_is : index.solo.pool.config ≡ with_one_pass config
  pub limits : index.solo.pool.limits ≡ limits_of (with_one_pass config) (words_of_slice config)
  pub empty : index.solo.history ≡ []
  pub no_ids : index.ids ≡ []
  pub no_bytes : index.bytes.items ≡ []

-- the bytes are a configuration, and the index is an empty one by it
pub record OpensBy (bytes : List ℕ) (index : Index) (told : Code) (fault : Place ℕ) : Type 0 where
  pub config : Config
  pub read : configuration bytes ≡ Ok config
  pub new : IsNew config index
  pub code : told ≡ code.Done
  pub number : Stays fault

-- the bytes are none, for a cause whose number is told
pub record IsNoConfig (bytes : List ℕ) (told : Code) (fault : Place ℕ) : Type 0 where
  pub cause : ConfigFault
  pub read : configuration bytes ≡ Err cause
  pub code : told ≡ code.NoConfig
  pub number : fault.after ≡ number_of_fault cause

-- no memory was found, and nothing was told
abbrev pub HasNoMemory : Code → Place ℕ → Type 0
HasNoMemory told fault = (told ≡ code.Memory) × Stays fault

-- an open makes an index of a handle that has none
abbrev pub Opens : Option Index → Option Index → List ℕ → Code → Place ℕ → Type 0
Opens None (Some index) bytes told fault = OpensBy bytes index told fault
Opens None None bytes told fault = IsNoConfig bytes told fault ⊎ HasNoMemory told fault
Opens (Some before) after bytes told fault = (told ≡ code.Open) × (after ≡ Some before) × Stays fault

-- a close leaves a handle that has no index
abbrev pub Closes : Option Index → Option Index → ℕ → Type 0
Closes None after number = (number ≡ number_of code.Closed) × (after ≡ None)
Closes (Some before) after number = (number ≡ number_of code.Done) × (after ≡ None)

-- a call of an index, where the handle has one; else its code says so, and nothing was done
abbrev pub IfOpen : Option Index → Option Index → ℕ → Type 0 → (Index → Index → Code → Type 0) → Type 0
IfOpen None after number untouched holds = (number ≡ number_of code.Closed) × (after ≡ None) × untouched
IfOpen (Some before) None number untouched holds = ⊥
IfOpen (Some before) (Some after) number untouched holds = (told : Code) × (number ≡ number_of told) × holds before after told

-- the text is UTF-8 and this holds; else the code says that it isn't, and nothing was done
abbrev pub IfText : List ℕ → Index → Index → Code → Type 0 → Type 0 → Type 0
IfText text before after told untouched holds =
    (IsUtf8 text × holds) ⊎ (¬ (IsUtf8 text) × (told ≡ code.NotUtf8) × (after ≡ before) × untouched)

-- the pool is the same, and what is kept for C stays
pub record KeepsAll (before after : Index) : Type 0 where
  pub pool : after.solo.pool ≡ before.solo.pool
  pub ids : after.ids ≡ before.ids
  pub bytes : after.bytes ≡ before.bytes

-- the pool is the same, and these numbers are kept for C
pub record KeepsIds (ids : List ℕ) (before after : Index) : Type 0 where
  pub pool : after.solo.pool ≡ before.solo.pool
  pub ids_are : after.ids ≡ ids
  pub bytes : after.bytes ≡ before.bytes

-- the limits of an index
abbrev pub limits_at : Index → Limits
limits_at index = index.solo.pool.limits

-- an engine's call of one owner, with this reply
abbrev pub Makes : Call → Reply → Index → Index → Type 0
Makes asked given before after = MakesCall (limits_at before) asked given (sole_pass before.solo) (sole_pass after.solo)

pub record Adds (id : ℕ) (text : List ℕ) (before after : Index) (told : Code) (place : Place ℕ) : Type 0 where
  pub answer : Result ℕ AddFault
  pub made : Makes (call.Add id text) (reply_of_add answer) before after
  pub turns : AddTurns before.solo.pool.config (limits_at before) 0 id text before.solo.history after.solo.history answer
  pub kept : KeepsAll before after
  pub code : told ≡ code_of_add answer
  pub number : place.after ≡ place_of_add answer place.before

pub record Puts (id : ℕ) (text : List ℕ) (before after : Index) (told : Code) (place replaced : Place ℕ) : Type 0 where
  pub answer : Result Put PutFault
  pub made : Makes (call.Put id text) (reply_of_put answer) before after
  pub turns : PutTurns before.solo.pool.config (limits_at before) 0 id text before.solo.history after.solo.history answer
  pub kept : KeepsAll before after
  pub code : told ≡ code_of_put answer
  pub number : place.after ≡ place_of_put answer place.before
  pub documents : replaced.after ≡ replaced_of_put answer replaced.before

pub record Deletes (id : ℕ) (before after : Index) (told : Code) (place : Place ℕ) : Type 0 where
  pub answer : Result ℕ DeleteFault
  pub made : Makes (call.Delete id) (reply_of_delete answer) before after
  pub turn : DeleteTurn (limits_at before) id answer (sole_pass before.solo) (sole_pass after.solo)
  pub kept : KeepsAll before after
  pub code : told ≡ code_of_delete answer
  pub number : place.after ≡ number_if_ok answer place.before

-- a get keeps the bytes of the text
pub record Gets (id : ℕ) (before after : Index) (told : Code) (place count : Place ℕ) : Type 0 where
  pub answer : Result (ℕ × List ℕ) GetFault
  pub made : Makes (call.Get id) (reply_of_get answer) before after
  pub turn : GetTurn (limits_at before) 0 id before.solo.history after.solo.history answer
  pub pool : after.solo.pool ≡ before.solo.pool
  pub ids : after.ids ≡ before.ids
  pub bytes : after.bytes.items ≡ bytes_of_get answer before.bytes.items
  pub code : told ≡ code_of_get answer
  pub number : place.after ≡ place_of_get answer place.before
  pub many : count.after ≡ length_of_get answer count.before

-- a find keeps the numbers that it found
pub record Finds (query : List ℕ) (before after : Index) (told : Code) (count : Place ℕ) : Type 0 where
  pub answer : Result (List ℕ) FindFault
  pub made : Makes (call.Find query) (reply_of_find answer) before after
  pub turns : FindTurns (limits_at before) 0 query before.solo.history after.solo.history answer
  pub kept : KeepsIds (ids_of answer before.ids) before after
  pub code : told ≡ code_of_find answer
  pub number : count.after ≡ count_of answer count.before

-- so does a query
pub record Queries (text : List ℕ) (before after : Index) (told : Code) (count : Place ℕ) : Type 0 where
  pub answer : Result (List ℕ) SearchFault
  pub made : MakesQuery (limits_at before) text answer (sole_pass before.solo) (sole_pass after.solo)
  pub turns : QueryTurns (limits_at before) 0 text before.solo.history after.solo.history answer
  pub kept : KeepsIds (ids_of answer before.ids) before after
  pub code : told ≡ code_of_search answer
  pub number : count.after ≡ number_of_query answer count.before

-- a count by words or by an expression
pub record Counts (words : Bool) (text : List ℕ) (before after : Index) (told : Code) (count : Place ℕ) : Type 0 where
  pub answer : Result ℕ SearchFault
  pub made : MakesTold Amount reply.Count (limits_at before) (sought_by words text) answer (sole_pass before.solo) (sole_pass after.solo)
  pub turns : ToldTurns length (limits_at before) 0 (sought_by words text) before.solo.history after.solo.history answer
  pub kept : KeepsAll before after
  pub code : told ≡ code_of_search answer
  pub number : count.after ≡ number_of_count answer count.before

-- a search of whose numbers some are kept: by `told_of` the newest or the oldest
pub record KeepsSome (told_of : Told) (some_of : List ℕ → SomeFound) (words : Bool) (text : List ℕ) (before after : Index) (told : Code) (count : Place ℕ) : Type 0 where
  pub answer : Result SomeFound SearchFault
  pub made : MakesTold told_of reply_to_some (limits_at before) (sought_by words text) answer (sole_pass before.solo) (sole_pass after.solo)
  pub turns : ToldTurns some_of (limits_at before) 0 (sought_by words text) before.solo.history after.solo.history answer
  pub kept : KeepsIds (ids_of_some answer before.ids) before after
  pub code : told ≡ code_of_search answer
  pub number : count.after ≡ number_of_some answer count.before

abbrev pub KeepsNewest : ℕ → Bool → List ℕ → Index → Index → Code → Place ℕ → Type 0
KeepsNewest most = KeepsSome (Last most) (last_of most)

abbrev pub KeepsOldest : ℕ → Bool → List ℕ → Index → Index → Code → Place ℕ → Type 0
KeepsOldest most = KeepsSome (First most) (first_of most)

pub record TellsPlace (before after : Index) (told : Code) (place : Place ℕ) : Type 0 where
  pub answer : Result ℕ Spent
  pub made : Makes call.Place (reply_of_place answer) before after
  pub turn : PlaceTurn (limits_at before) answer (sole_pass before.solo) (sole_pass after.solo)
  pub kept : KeepsAll before after
  pub code : told ≡ code_of_spent answer
  pub number : place.after ≡ number_if_ok answer place.before

pub record TellsNumbers (before after : Index) (told : Code) (numbers : Place Numbers) : Type 0 where
  pub answer : Result Stats Spent
  pub made : Makes call.Stats (reply_of_stats answer) before after
  pub turn : StatsTurn (limits_at before) answer (sole_pass before.solo) (sole_pass after.solo)
  pub kept : KeepsAll before after
  pub code : told ≡ code_of_spent answer
  pub number : numbers.after ≡ numbers_told answer numbers.before

-- the journal's answer is told, and its numbers and signs are kept
pub record TellsJournal (answer : Result (List Commit) JournalFault) (before after : Index) (told : Code) (count : Place ℕ) : Type 0 where
  pub code : told ≡ code_of_journal answer
  pub number : count.after ≡ number_of_journal answer count.before
  pub ids : after.ids ≡ ids_of_journal answer before.ids
  pub signs : after.bytes.items ≡ signs_of_journal answer before.bytes.items

-- or there was no memory to keep them
pub record KeepsNoJournal (before after : Index) (told : Code) (count : Place ℕ) : Type 0 where
  pub code : told ≡ code.Memory
  pub number : Stays count
  pub ids : after.ids ≡ before.ids
  pub bytes : after.bytes ≡ before.bytes

pub record Reads (from : ℕ) (before after : Index) (told : Code) (count : Place ℕ) : Type 0 where
  pub answer : Result (List Commit) JournalFault
  pub made : Makes (call.Journal from) (reply_of_journal answer) before after
  pub turn : JournalTurn (limits_at before) from answer (sole_pass before.solo) (sole_pass after.solo)
  pub pool : after.solo.pool ≡ before.solo.pool
  pub kept : TellsJournal answer before after told count ⊎ KeepsNoJournal before after told count

-- numbers or bytes that are kept, from this place on, were copied to where C has room, and the index is as it was
pub record CopiesOut (kept : Index → List ℕ) (from : ℕ) (before after : Index) (told : Code) (room : Place (List ℕ)) : Type 0 where
  pub same : after ≡ before
  pub code : told ≡ code.Done
  pub copied_are : room.after ≡ copied (drop from (kept before)) room.before

abbrev pub CopiesIds : ℕ → Index → Index → Code → Place (List ℕ) → Type 0
CopiesIds = CopiesOut (λ index. index.ids)

abbrev pub CopiesBytes : ℕ → Index → Index → Code → Place (List ℕ) → Type 0
CopiesBytes = CopiesOut (λ index. index.bytes.items)
