-- The history of the clear: what is allowed next, and what the find may read. What holds of the columns one by one is seen by
-- tests that compute.
use Rattle.std.proofs.Common.{◌≡◌, ◌⊎◌, ◌↔◌, ⊎_elim, inl, ℕ, zero, suc, ◌+◌, ◌-◌, ◌^◌, ◌<◌, Bool, true, false, eqb, ltb, not, ◌&&◌, Option, Some, None, List, [], ◌∷◌, ◌++◌, drop, length, refl, sym, ap, ◌∙◌, subst, arith}
use Rattle.std.proofs.lemmas.Bool.{and_parts, both_ways, cases_eq, eqb-true, ltb-true}
use Rattle.std.proofs.lemmas.List.Elements.{All-cons, All-nil, Contains-append_left, Contains-append_right}
use Rattle.std.specs.List.{Contains, list_any}
use Rattle.std.specs.Option.{IfSome}
use Rattle.funnel_model.specs.declared.bit_list.Bit.{Bit}
use Rattle.funnel_model.specs.declared.event.Event.{Event}
use Rattle.funnel_model.specs.declared.event.Event.TheVariants as event
use Rattle.funnel_model.specs.Events.{drops_on, leaves_open}
use Rattle.funnel_model.specs.History.{is_live, last_by, place}
use Rattle.funnel_model.specs.Legal.{HasRoom, IsAllowed, IsIdle, IsInSlice, Limits, awaited}
use Rattle.funnel_model.specs.RowWords.{IsCommitted}
use Rattle.funnel_model.specs.Slices.{AllOver, Deleted, Dropped, IsDeletedOn, IsInUse, claimed, is_claimed, is_clearing, span}
use Rattle.funnel_model.specs.Tokens.{IsGuarded}
use Rattle.funnel_model.proofs.ExampleLemmas.{one_slice, two_columns}
use Rattle.funnel_model.proofs.NextEvents.{awaited-push}
use Rattle.funnel_model.proofs.Progress.{allowed_by}
use Rattle.funnel_model.proofs.SpareLemmas.{deleted_somewhere, finds_last, not_retired, room_by, token_finds_last}
use Rattle.funnel_model.proofs.Spans.{last_by-own}
use Rattle.pool_tests.specs.Cleared.{added, clearing, deleted, drops, ended, finding, small, taken, tested_bit}
use Rattle.slice_rule.specs.declared.view.Fact.{Fact}
use Rattle.slice_rule.specs.declared.view.Fact.TheVariants as fact
use Rattle.slice_rule.specs.Numbers.{last_number}
use Rattle.slice_rule.specs.Pools.{PoolId}
use Rattle.slice_rule.specs.Seats.{HoldsToken, HomeState, NoteState, PassState, facts_of_pass}
use Rattle.slice_rule.specs.Worlds.{made_by}

-- what is allowed of the sizes and the history of the test is allowed where they have other names
pub allowed_at : (limits : Limits) (now history : List Event) (e : Event) → limits ≡ small → now ≡ history → IsAllowed small history e → IsAllowed limits now e
allowed_at limits now history e sizes is allowed =
    subst (λ (l : Limits). IsAllowed l now e) (sym sizes) (subst (λ (h : List Event). IsAllowed small h e) (sym is) allowed)

-- whether all numbers below pass
all_below : (ℕ → Bool) → ℕ → Bool
all_below p zero = true
all_below p (suc n) = all_below p n && p n

each_below : (p : ℕ → Bool) (n : ℕ) → all_below p n ≡ true → (k : ℕ) → k < n → p k ≡ true
unfolding all_below
each_below p zero all k less = absurd (omega arith)
each_below p (suc n) all k less =
    let parts = and_parts (all_below p n) (p n) all in
    ⊎_elim
    (λ (is : k ≡ n). subst (λ m. p m ≡ true) (sym is) parts.1)
    (λ (ne : k ≡ n → ⊥). each_below p n parts.0 k (omega (arith, ne, less)))
    (cases_eq k n)

pub drops_start : drops 0 ≡ event.Take 1 0 0 ∷ event.Add 1 4 [] 0 0 [] ∷ []
unfolding drops
drops_start = refl

pub drops_push : (k : ℕ) → drops (k + 1) ≡ (drops k ++ event.Take 1 0 (k + 1) ∷ []) ++ event.Drop 1 4 [] 0 (k + 1) ∷ []
unfolding drops
drops_push k =
    let next : suc k ≡ k + 1 = omega arith in
    subst (λ (n : ℕ). drops n ≡ (drops k ++ event.Take 1 0 (k + 1) ∷ []) ++ event.Drop 1 4 [] 0 (k + 1) ∷ []) next refl

pub first_allowed : IsAllowed small [] (event.Take 1 0 0)
first_allowed = record {
  pass = omega arith;
  at_once = tt;
  rule = inl (record { idle = tt; in_range = omega arith; room = room_by 64 0 0 [] (omega arith) refl refl refl refl; lowest = λ lower less. absurd (omega arith); next = refl });
}

-- a pass that set no bits may add a document without bits
pub none_set : (bits : List Bit) (own : List Fact) (number : ℕ) → bits ≡ [] → own ≡ [] → (b : Bit) → Contains bits b ↔ Contains own (fact.BitSet number b)
none_set bits own number is are b =
    subst (λ (bs : List Bit). Contains bs b ↔ Contains own (fact.BitSet number b)) (sym is)
    (subst (λ (fs : List Fact). Contains [] b ↔ Contains fs (fact.BitSet number b)) (sym are)
    (λ none. let no = none.1 in absurd (omega arith), λ none. let no = none.1 in absurd (omega arith)))

false_by : (x : Bool) → not x ≡ true → x ≡ false
false_by true is = cc
false_by false is = refl

-- whether the column after so many drops has room: it is unclaimed and next, and nothing became of it
abbrev next_is_free : ℕ → Bool
next_is_free k =
    (not (is_claimed 0 (k + 1) (drops k)) && not (is_clearing 0 (drops k)))
    && ((not (list_any (drops_on 0 (k + 1)) (span 0 (drops k))) && not (deleted_somewhere 0 (k + 1) (drops k))) && eqb (length (claimed 0 (drops k))) (k + 1))

each_next_is_free : (k : ℕ) → k < 63 → next_is_free k ≡ true
unfolding drops all_below
each_next_is_free = each_below next_is_free 63 refl

nothing_awaited : (k : ℕ) → awaited (drops k) ≡ None
unfolding drops
nothing_awaited zero = refl
nothing_awaited (suc k) = awaited-push (drops k ++ event.Take 1 0 (k + 1) ∷ []) (event.Drop 1 4 [] 0 (k + 1))

idle : (k : ℕ) → IsIdle 1 (drops k)
unfolding drops
idle zero = refl
idle (suc k) =
    subst (λ (o : Option Event). IfSome o (λ e. leaves_open e ≡ false)) (sym (last_by-own 1 (drops k ++ event.Take 1 0 (k + 1) ∷ []) (event.Drop 1 4 [] 0 (k + 1)) refl)) refl

pub take_next_allowed : (k : ℕ) → k < 63 → IsAllowed small (drops k) (event.Take 1 0 (k + 1))
take_next_allowed k less =
    let free = and_parts _ _ (each_next_is_free k less) in
    let unclaimed = and_parts _ _ free.0 in
    let rest = and_parts _ _ free.1 in
    let untouched = and_parts _ _ rest.0 in
    allowed_by small (drops k) (event.Take 1 0 (k + 1)) (omega arith) (nothing_awaited k) (inl (record {
      idle = idle k;
      in_range = omega arith;
      room = room_by 64 0 (k + 1) (drops k) (omega (arith, less)) (false_by _ unclaimed.0) (false_by _ unclaimed.1) (false_by _ untouched.0) (false_by _ untouched.1);
      lowest = λ lower below room. absurd (omega arith);
      next = sym (eqb-true (length (claimed 0 (drops k))) (k + 1) rest.1);
    }))

-- document 4 is live when the column is taken
abbrev drop_has_cause : ℕ → Bool
drop_has_cause k = is_live 4 (drops k ++ event.Take 1 0 (k + 1) ∷ [])

each_drop_has_cause : (k : ℕ) → k < 63 → drop_has_cause k ≡ true
unfolding drops all_below
each_drop_has_cause = each_below drop_has_cause 63 refl

pub drop_next_allowed : (k : ℕ) (text : List ℕ) → k < 63 → IsAllowed small (drops k ++ event.Take 1 0 (k + 1) ∷ []) (event.Drop 1 4 text 0 (k + 1))
drop_next_allowed k text less =
    allowed_by small (drops k ++ event.Take 1 0 (k + 1) ∷ []) (event.Drop 1 4 text 0 (k + 1)) (omega arith) (awaited-push (drops k) (event.Take 1 0 (k + 1)))
    (record { taken = last_by-own 1 (drops k) (event.Take 1 0 (k + 1)) refl; present = each_drop_has_cause k less })

each_claimed : (column : ℕ) → column < 64 → is_claimed 0 column (drops 63) ≡ true
unfolding drops all_below
each_claimed = each_below (λ column. is_claimed 0 column (drops 63)) 64 refl

-- slice 0 has no room once its columns are claimed
no_room : HasRoom 64 (drops 63) 0 → ⊥
no_room room = let left = room.unclaimed in both_ways (is_claimed 0 left.0 (drops 63)) left.2 (each_claimed left.0 left.1)

pub take_second_allowed : IsAllowed small (drops 63) (event.Take 1 1 0)
unfolding drops
take_second_allowed = record {
  pass = omega arith;
  at_once = tt;
  rule = inl (record { idle = refl; in_range = omega arith; room = room_by 64 1 0 (drops 63) (omega arith) refl refl refl refl; lowest = one_slice _ no_room; next = refl });
}

pub add_second_allowed : (text : List ℕ) (bits : List Bit) → bits ≡ tested_bit ∷ [] → IsAllowed small taken (event.Add 1 5 text 1 0 bits)
unfolding drops
add_second_allowed text bits is = subst (λ (bs : List Bit). IsAllowed small taken (event.Add 1 5 text 1 0 bs)) (sym is) (record {
  pass = omega arith;
  at_once = tt;
  rule = record {
    taken = refl;
    inside = All-cons (λ (b : Bit). IsInSlice 1 1 b.word) tested_bit [] (record { from = omega arith; to = omega arith }) (All-nil (λ (b : Bit). IsInSlice 1 1 b.word));
    in_word = All-cons (λ (b : Bit). b.bit < 64) tested_bit [] (omega arith) (All-nil (λ (b : Bit). b.bit < 64));
  };
})

pub delete_allowed : IsAllowed small added (event.Del 1 4)
unfolding drops
delete_allowed = record { pass = omega arith; at_once = tt; rule = record { idle = refl; present = refl } }

-- each column of slice 0 but the first is dropped
each_dropped : (column : ℕ) → column < 63 → list_any (drops_on 0 (column + 1)) (span 0 deleted) ≡ true
unfolding drops all_below
each_dropped = each_below (λ column. list_any (drops_on 0 (column + 1)) (span 0 deleted)) 63 refl

-- the first one is deleted
first_deleted : IsDeletedOn deleted 0 0 (record { id = 4; text = []; place = 1 }) 2 131
unfolding drops
first_deleted = record {
  between = drop 2 added;
  event = event.Del 1 4;
  later = [];
  put = record { earlier = event.Take 1 0 0 ∷ []; event = event.Add 1 4 [] 0 0 []; whole = refl; count = refl; puts = refl; lives = (0, omega arith, refl); stays = refl };
  not_before = refl;
  takes_it_off = refl;
  count = refl;
}

each_over : AllOver 64 0 deleted
each_over zero less = (Deleted (record { id = 4; text = []; place = 1 }) 2 131, first_deleted, tt)
each_over (suc column) less =
    let next : column + 1 ≡ suc column = omega arith in
    (Dropped, subst (λ (c : ℕ). list_any (drops_on 0 c) (span 0 deleted) ≡ true) next (each_dropped column (omega (arith, less))), tt)

-- no find has begun
unguarded : IsGuarded 64 deleted 0 → ⊥
unfolding drops
unguarded guard = both_ways (finds_last guard.0 deleted) refl (token_finds_last deleted guard.0 guard.1 guard.2.token)

pub clear_allowed : IsAllowed small deleted (event.Clear 1 0)
unfolding drops
clear_allowed = record {
  pass = omega arith;
  at_once = tt;
  rule = record {
    idle = refl;
    in_range = omega arith;
    can_clear = record { retired = record { over = each_over; not_clearing = refl }; unguarded = unguarded };
    lowest = λ lower less can. absurd (omega arith);
  };
}

pub find_allowed : (query : List ℕ) → IsAllowed small clearing (event.Find 0 query)
unfolding drops
find_allowed query = record { pass = omega arith; at_once = tt; rule = tt }

pub end_allowed : IsAllowed small finding (event.End 0)
unfolding drops
end_allowed = record { pass = omega arith; at_once = tt; rule = record { query = []; begun = refl } }

pub open_allowed : IsAllowed small ended (event.Opened 1 0 true)
unfolding drops
open_allowed = record { pass = omega arith; at_once = tt; rule = record { cleared = refl } }

-- the last events of pass 1, and their numbers
pub taken_last : last_by 1 taken ≡ Some (event.Take 1 1 0)
unfolding drops
taken_last = refl

pub taken_number : last_number 1 taken ≡ 129
unfolding drops
taken_number = refl

pub clearing_last : last_by 1 clearing ≡ Some (event.Clear 1 0)
unfolding drops
clearing_last = refl

pub clearing_number : last_number 1 clearing ≡ 132
unfolding drops
clearing_number = refl

pub ended_number : last_number 1 ended ≡ 132
unfolding drops
ended_number = refl

-- how many events there are
pub taken_length : length taken ≡ 129
unfolding drops
taken_length = refl

pub added_length : length added ≡ 130
unfolding drops
added_length = refl

pub deleted_length : length deleted ≡ 131
unfolding drops
deleted_length = refl

pub clearing_length : length clearing ≡ 132
unfolding drops
clearing_length = refl

pub finding_length : length finding ≡ 133
unfolding drops
finding_length = refl

pub ended_length : length ended ≡ 134
unfolding drops
ended_length = refl

pub opened_length : length (ended ++ event.Opened 1 0 true ∷ []) ≡ 135
unfolding drops
opened_length = refl

is_short : List Event → Bool
is_short history = ltb (length history) 1000

each_is_short : (k : ℕ) → k < 64 → is_short (drops k) ≡ true
unfolding drops all_below is_short
each_is_short = each_below (λ k. is_short (drops k)) 64 refl

each_with_take_is_short : (k : ℕ) → k < 63 → is_short (drops k ++ event.Take 1 0 (k + 1) ∷ []) ≡ true
unfolding drops all_below is_short
each_with_take_is_short = each_below (λ k. is_short (drops k ++ event.Take 1 0 (k + 1) ∷ [])) 63 refl

-- there is room for more
room_for : (now history : List Event) → now ≡ history → is_short history ≡ true → length now < 2 ^ 63 - 1
unfolding is_short
room_for now history is short =
    let few : length history < 1000 = ltb-true (length history) 1000 short in
    subst (λ (h : List Event). length h < 2 ^ 63 - 1) (sym is) (omega (arith, few))

pub room_after : (now history : List Event) (number : ℕ) → now ≡ history → length history ≡ number → number < 1000 → length now < 2 ^ 63 - 1
room_after now history number is count few =
    subst (λ (h : List Event). length h < 2 ^ 63 - 1) (sym is) (omega (arith, count, few))

pub room_for_take : (now : List Event) (k : ℕ) → now ≡ drops k → k < 64 → length now < 2 ^ 63 - 1
room_for_take now k is less = room_for now (drops k) is (each_is_short k less)

pub room_for_drop : (now : List Event) (k : ℕ) → now ≡ drops k ++ event.Take 1 0 (k + 1) ∷ [] → k < 63 → length now < 2 ^ 63 - 1
room_for_drop now k is less = room_for now (drops k ++ event.Take 1 0 (k + 1) ∷ []) is (each_with_take_is_short k less)

-- pass 0 alone made events since
pub ended_made : made_by 1 ended ≡ made_by 1 clearing
unfolding drops
ended_made = refl

-- slice 1 is in use while slice 0 is cleared
in_use : (slice : ℕ) → slice < 2 → IsInUse 64 slice clearing → slice ≡ 1
unfolding drops
in_use = two_columns _ (λ use'. absurd (both_ways (is_clearing 0 clearing) use'.not_clearing refl)) (λ use'. refl)

second_in_use : IsInUse 64 1 clearing
unfolding drops
second_in_use = record { not_retired = not_retired 64 1 0 clearing (omega arith) refl refl; not_clearing = refl }

place_is : 3 ≡ place clearing
unfolding drops
place_is = refl

pub find_number : 133 ≡ length clearing + 1
unfolding drops
find_number = refl

module _ (set : List ℕ) (has : (slice : ℕ) → Contains set slice ↔ ((slice ≡ 1) ⊎ Contains [] slice)) where
  is_second : (slice : ℕ) → Contains set slice → slice ≡ 1
  is_second slice in' = ⊎_elim (λ is. is) (λ none. let no = none.1 in absurd (omega arith)) ((has slice).0 in')

  slices_are : (slice : ℕ) → Contains set slice ↔ ((slice < 2) × IsInUse 64 slice clearing)
  slices_are slice = (
    λ in'. let is = is_second slice in' in (omega arith, subst (λ (s : ℕ). IsInUse 64 s clearing) (sym is) second_in_use),
    λ used. (has slice).1 (inl (in_use slice used.0 used.1)),
  )

  -- pass 0 holds the token of its find
  pub token_held : (seat : PassState) (pool : PoolId) (number : ℕ) → pool.limits ≡ small → seat.pool ≡ pool → seat.number ≡ 0 → seat.front ≡ finding → number ≡ 133
      → HoldsToken seat (record { place = 3; opened_at = number; slices = set })
  token_held seat pool number sizes same pass front is =
      let at_begin : HoldsToken (record { pool = seat.pool; number = 0; front = finding; asked = seat.asked; own = seat.own; told = seat.told }) (record { place = 3; opened_at = 133; slices = set }) = record {
        begun = record { earlier = clearing; query = []; later = []; whole = refl; count = find_number; stays = refl };
        at_place = place_is;
        slices = λ slice. subst (λ (l : Limits). Contains set slice ↔ ((slice < l.slices) × IsInUse l.columns slice clearing)) (sym (ap (λ (p : PoolId). p.limits) same ∙ sizes)) (slices_are slice);
      } in
      subst (λ (n : ℕ). HoldsToken seat (record { place = 3; opened_at = n; slices = set })) (sym is)
      (subst (λ (f : List Event). HoldsToken (record seat { front = f }) (record { place = 3; opened_at = 133; slices = set })) (sym front)
      (subst (λ (n : ℕ). HoldsToken (record { pool = seat.pool; number = n; front = finding; asked = seat.asked; own = seat.own; told = seat.told }) (record { place = 3; opened_at = 133; slices = set })) (sym pass) at_begin))

second_committed : IsCommitted finding 1 tested_bit
unfolding drops
second_committed = record {
  earlier = taken;
  event = event.Add 1 5 [] 1 0 (tested_bit ∷ []);
  later = event.Del 1 4 ∷ event.Clear 1 0 ∷ event.Find 0 [] ∷ [];
  whole = refl;
  added = (0, omega arith, refl);
  stays = refl;
}

-- the bit is committed for the find
pub bit_committed : (front : List Event) → front ≡ finding → IsCommitted front 1 tested_bit
bit_committed front is = subst (λ (h : List Event). IsCommitted h 1 tested_bit) (sym is) second_committed

-- word 0 is the only one of slice 0, and pass 1 made it zero
pub zero_made : (slice_words : ℕ) (front : List Event) (own : List Fact) → slice_words ≡ 1 → front ≡ clearing → Contains own (fact.WordZero 132 0)
    → (word : ℕ) → IsInSlice slice_words 0 word → Contains own (fact.WordZero (last_number 1 front) word)
zero_made slice_words front own one is zero' word inside =
    let here : IsInSlice 1 0 word = subst (λ (n : ℕ). IsInSlice n 0 word) one inside in
    let to = here.to in
    let only : word ≡ 0 = omega arith in
    let number : last_number 1 front ≡ 132 = ap (last_number 1) is ∙ clearing_number in
    subst (Contains own) (sym (ap (λ (n : ℕ). fact.WordZero n word) number ∙ ap (fact.WordZero 132) only)) zero'

-- so it knows once it cleared that word
pub zero_known : (own before : List Fact) (number : ℕ) (front : List Event) → number ≡ 1 → front ≡ clearing → own ≡ fact.WordZero (last_number number front) 0 ∷ before
    → Contains own (fact.WordZero 132 0)
zero_known own before number front pass at is =
    let under : last_number number front ≡ 132 = ap (λ (p : ℕ). last_number p front) pass ∙ ap (last_number 1) at ∙ clearing_number in
    subst (λ (fs : List Fact). Contains fs (fact.WordZero 132 0)) (sym (is ∙ ap (λ (n : ℕ). fact.WordZero n 0 ∷ before) under)) (0, omega arith, refl)

-- the home was told so by the note of pass 1
pub zero_told : (limits : Limits) (seat : PassState) (before after : HomeState) (note : NoteState) → limits ≡ small → before.history ≡ ended → Contains seat.own (fact.WordZero 132 0)
    → note.facts ≡ facts_of_pass seat → after ≡ record before { told = note.facts ++ before.told } → (word : ℕ) → IsInSlice limits.slice_words 0 word
    → Contains after.told (fact.WordZero (last_number 1 after.history) word)
zero_told limits seat before after note sizes history own facts is word inside =
    let one : limits.slice_words ≡ 1 = ap (λ (l : Limits). l.slice_words) sizes in
    let here : IsInSlice 1 0 word = subst (λ (n : ℕ). IsInSlice n 0 word) one inside in
    let to = here.to in
    let only : word ≡ 0 = omega arith in
    let number : last_number 1 after.history ≡ 132 = ap (last_number 1) (ap (λ (h : HomeState). h.history) is ∙ history) ∙ ended_number in
    let known : fact.WordZero (last_number 1 after.history) word ≡ fact.WordZero 132 0 = ap (λ (n : ℕ). fact.WordZero n word) number ∙ ap (fact.WordZero 132) only in
    let told : after.told ≡ facts_of_pass seat ++ before.told = ap (λ (h : HomeState). h.told) is ∙ ap (λ (fs : List Fact). fs ++ before.told) facts in
    let f = fact.WordZero 132 0 in
    subst (Contains after.told) (sym known)
    (subst (λ (fs : List Fact). Contains fs f) (sym told)
    (Contains-append_left (facts_of_pass seat) before.told f
    (Contains-append_right (fact.Asked seat.number seat.asked ∷ []) (seat.own ++ seat.told) f
    (Contains-append_left seat.own seat.told f own))))
