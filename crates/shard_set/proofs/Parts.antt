-- What is live in the part of a list that goes to a shard.
use Rattle.std.proofs.Common.{◌≡◌, ℕ, ◌+◌, Bool, true, false, not, cond, List, [], ◌∷◌, ◌++◌, map, filter, Option, Some, None, sym, refl, ap, ◌∙◌, subst, append_assoc}
use Rattle.std.proofs.lemmas.Bool.{or_parts}
use Rattle.std.proofs.lemmas.List.{append-nil, map-append}
use Rattle.std.proofs.lemmas.List.Elements.{All-map, All-weaker, filter-append}
use Rattle.std.specs.List.{All, list_any}
use Rattle.std.specs.Option.{is_some, option_map, option_map_or}
use Rattle.std.specs.Prelude.{◌==◌, ◌&&◌}
use Rattle.bare_history.specs.Bare.{documents}
use Rattle.funnel_model.specs.declared.bit_list.Bit.{Bit}
use Rattle.funnel_model.specs.declared.event.Event.{Event}
use Rattle.funnel_model.specs.declared.event.Event.TheVariants as event
use Rattle.funnel_model.specs.History.{Document, document_with, is_live, live, place}
use Rattle.funnel_model.proofs.LiveLemmas.{live-add, live-deletes}
use Rattle.shard_set.specs.Parts.{AreCommits, GoOn, MayCome, goes_at, part, part_from, shard_of}
use Rattle.shard_set.proofs.Found.{find_some, one_with_id}
use Rattle.shard_set.proofs.Lists.{filter_alike, filter_both, filter_of_map, filter_swap, list_any_of_map}

-- commits go on over two parts where they go on over each
go_on_join : (before xs ys : List Event) → GoOn before xs → GoOn (before ++ xs) ys → GoOn before (xs ++ ys)
go_on_join before [] ys go more = subst (λ (h : List Event). GoOn h ys) (append-nil before) more
go_on_join before (x ∷ xs) ys go more =
    (go.0, go_on_join (before ++ x ∷ []) xs ys go.1 (subst (λ (h : List Event). GoOn h ys) (sym (append_assoc before (x ∷ []) xs)) more))

-- one more commit that may come
pub commits-push : (list : List Event) (e : Event) → AreCommits list → MayCome list e → AreCommits (list ++ e ∷ [])
commits-push list e commits may = go_on_join [] list (e ∷ []) commits (may, tt)

by_commits_from : (P : List Event → Type 0) → ((h : List Event) (e : Event) → MayCome h e → P h → P (h ++ e ∷ [])) → (before later : List Event) → P before → GoOn before later →
    P (before ++ later)
by_commits_from P step before [] p go = subst P (sym (append-nil before)) p
by_commits_from P step before (e ∷ later) p go = subst P (append_assoc before (e ∷ []) later) (by_commits_from P step (before ++ e ∷ []) later (step before e go.0 p) go.1)

-- what holds of the empty list, and stays with each commit that may come, holds of each list of commits
pub by_commits : (P : List Event → Type 0) → P [] → ((h : List Event) (e : Event) → MayCome h e → P h → P (h ++ e ∷ [])) → (list : List Event) → AreCommits list → P list
by_commits P start step list commits = by_commits_from P step [] list start commits

-- the later part of a part
part_from-append : (shards shard : ℕ) (before xs ys : List Event) → part_from shards shard before (xs ++ ys) ≡ part_from shards shard before xs ++ part_from shards shard (before ++ xs) ys
part_from-append shards shard before [] ys = ap (λ (h : List Event). part_from shards shard h ys) (sym (append-nil before))
part_from-append shards shard before (x ∷ xs) ys =
    let one = cond (goes_at shards shard before x) (x ∷ []) [] in
    ap (λ es. one ++ es) (part_from-append shards shard (before ++ x ∷ []) xs ys
    ∙ ap (λ (h : List Event). part_from shards shard (before ++ x ∷ []) xs ++ part_from shards shard h ys) (append_assoc before (x ∷ []) xs))
    ∙ sym (append_assoc one (part_from shards shard (before ++ x ∷ []) xs) (part_from shards shard (before ++ x ∷ xs) ys))

-- with one more event
pub part-push : (shards shard : ℕ) (list : List Event) (e : Event) → part shards (list ++ e ∷ []) shard ≡ part shards list shard ++ cond (goes_at shards shard list e) (e ∷ []) []
part-push shards shard list e =
    part_from-append shards shard [] list (e ∷ []) ∙ ap (λ es. part shards list shard ++ es) (append-nil (cond (goes_at shards shard list e) (e ∷ []) []))

-- that goes to the shard, or to another
pub part-here : (shards shard : ℕ) (list : List Event) (e : Event) → goes_at shards shard list e ≡ true → part shards (list ++ e ∷ []) shard ≡ part shards list shard ++ e ∷ []
part-here shards shard list e here = part-push shards shard list e ∙ ap (λ b. part shards list shard ++ cond b (e ∷ []) []) here

pub part-elsewhere : (shards shard : ℕ) (list : List Event) (e : Event) → goes_at shards shard list e ≡ false → part shards (list ++ e ∷ []) shard ≡ part shards list shard
part-elsewhere shards shard list e elsewhere =
    part-push shards shard list e ∙ ap (λ b. part shards list shard ++ cond b (e ∷ []) []) elsewhere ∙ append-nil (part shards list shard)

-- whether a document has another number
abbrev other_than : ℕ → ℕ × List ℕ → Bool
other_than id d = not (d.0 == id)

-- whether a document goes to the shard
abbrev pub is_in : ℕ → ℕ → ℕ × List ℕ → Bool
is_in shards shard d = shard_of shards d.1 == shard

told_of : Document → ℕ × List ℕ
told_of d = (d.id, d.text)

-- the documents after an add, and after a delete
documents-add : (history : List Event) (pass id : ℕ) (text : List ℕ) (slice column : ℕ) (bits : List Bit) →
    documents (history ++ event.Add pass id text slice column bits ∷ []) ≡ filter (other_than id) (documents history) ++ (id, text) ∷ []
documents-add history pass id text slice column bits =
    ap (map (λ (d : Document). (d.id, d.text))) (live-add history pass id text slice column bits)
    ∙ map-append (λ (d : Document). (d.id, d.text)) (filter (λ d. not (d.id == id)) (live history)) (record { id = id; text = text; place = place history + 1 } ∷ [])
    ∙ ap (λ ds. ds ++ (id, text) ∷ []) (sym (filter_of_map (other_than id) (λ (d : Document). (d.id, d.text)) (live history)))

documents-delete : (history : List Event) (pass id : ℕ) → documents (history ++ event.Del pass id ∷ []) ≡ filter (other_than id) (documents history)
documents-delete history pass id =
    ap (map (λ (d : Document). (d.id, d.text))) (live-deletes history pass id)
    ∙ sym (filter_of_map (other_than id) (λ (d : Document). (d.id, d.text)) (live history))

-- where no document has the number, all are others
others_left : (id : ℕ) (ds : List (ℕ × List ℕ)) → list_any (λ d. d.0 == id) ds ≡ false → filter (other_than id) ds ≡ ds
others_left id [] none = refl
others_left id (d ∷ ds) none =
    let parts = or_parts (d.0 == id) (list_any (λ x. x.0 == id) ds) none in
    ap (λ b. cond (not b) (d ∷ filter (other_than id) ds) (filter (other_than id) ds)) parts.0 ∙ ap (λ (xs : List (ℕ × List ℕ)). d ∷ xs) (others_left id ds parts.1)

-- where each document with the number goes to another shard, none is taken away here
others_here : (shards shard id : ℕ) (ds : List (ℕ × List ℕ)) → All (λ (d : ℕ × List ℕ). (d.0 == id) ≡ true → is_in shards shard d ≡ false) ds →
    filter (is_in shards shard) (filter (other_than id) ds) ≡ filter (is_in shards shard) ds
others_here shards shard id ds apart =
    filter_both (is_in shards shard) (other_than id) ds
    ∙ filter_alike (λ d. other_than id d && is_in shards shard d) (is_in shards shard) ds
    (All-weaker (λ (d : ℕ × List ℕ). (d.0 == id) ≡ true → is_in shards shard d ≡ false) (λ (d : ℕ × List ℕ). (other_than id d && is_in shards shard d) ≡ is_in shards shard d)
    (λ d other. of d (d.0 == id) refl other) ds apart)
  where
    of : (d : ℕ × List ℕ) (b : Bool) → (d.0 == id) ≡ b → ((d.0 == id) ≡ true → is_in shards shard d ≡ false) → (other_than id d && is_in shards shard d) ≡ is_in shards shard d
    of d true same other = ap (λ b. not b && is_in shards shard d) same ∙ sym (other same)
    of d false same other = ap (λ b. not b && is_in shards shard d) same

module _ (shards shard : ℕ) where
  -- the documents of the part
  abbrev PartHas : List Event → Type 0
  PartHas list = documents (part shards list shard) ≡ filter (is_in shards shard) (documents list)

  part-added : (h : List Event) (pass id : ℕ) (text : List ℕ) (slice column : ℕ) (bits : List Bit) → is_live id h ≡ false → PartHas h →
      (b : Bool) → (shard_of shards text == shard) ≡ b → PartHas (h ++ event.Add pass id text slice column bits ∷ [])
  part-added h pass id text slice column bits absent has true here =
      let e = event.Add pass id text slice column bits in
      let after : documents (h ++ e ∷ []) ≡ filter (other_than id) (documents h) ++ (id, text) ∷ [] = documents-add h pass id text slice column bits in
      ap documents (part-here shards shard h e here)
      ∙ documents-add (part shards h shard) pass id text slice column bits
      ∙ ap (λ ds. filter (other_than id) ds ++ (id, text) ∷ []) has
      ∙ ap (λ ds. ds ++ (id, text) ∷ []) (filter_swap (other_than id) (is_in shards shard) (documents h))
      ∙ sym (ap (filter (is_in shards shard)) after
      ∙ filter-append (is_in shards shard) (filter (other_than id) (documents h)) ((id, text) ∷ [])
      ∙ ap (λ b. filter (is_in shards shard) (filter (other_than id) (documents h)) ++ cond b ((id, text) ∷ []) []) here)
  part-added h pass id text slice column bits absent has false elsewhere =
      let e = event.Add pass id text slice column bits in
      let after : documents (h ++ e ∷ []) ≡ filter (other_than id) (documents h) ++ (id, text) ∷ [] = documents-add h pass id text slice column bits in
      let none : list_any (λ (d : ℕ × List ℕ). d.0 == id) (documents h) ≡ false = list_any_of_map (λ (d : ℕ × List ℕ). d.0 == id) (λ (d : Document). (d.id, d.text)) (live h) ∙ absent in
      ap documents (part-elsewhere shards shard h e elsewhere)
      ∙ has
      ∙ sym (ap (filter (is_in shards shard)) after
      ∙ filter-append (is_in shards shard) (filter (other_than id) (documents h)) ((id, text) ∷ [])
      ∙ ap (λ b. filter (is_in shards shard) (filter (other_than id) (documents h)) ++ cond b ((id, text) ∷ []) []) elsewhere
      ∙ append-nil (filter (is_in shards shard) (filter (other_than id) (documents h)))
      ∙ ap (filter (is_in shards shard)) (others_left id (documents h) none))

  part-deleted : (h : List Event) (pass id : ℕ) (d : Document) → document_with id h ≡ Some d → PartHas h →
      (b : Bool) → (shard_of shards d.text == shard) ≡ b → PartHas (h ++ event.Del pass id ∷ [])
  part-deleted h pass id d is has true here =
      let e = event.Del pass id in
      let goes : goes_at shards shard h e ≡ true = ap (λ o. option_map_or (λ (k : ℕ). k == shard) (option_map (λ (x : Document). shard_of shards x.text) o) false) is ∙ here in
      ap documents (part-here shards shard h e goes)
      ∙ documents-delete (part shards h shard) pass id
      ∙ ap (filter (other_than id)) has
      ∙ filter_swap (other_than id) (is_in shards shard) (documents h)
      ∙ sym (ap (filter (is_in shards shard)) (documents-delete h pass id))
  part-deleted h pass id d is has false elsewhere =
      let e = event.Del pass id in
      let goes : goes_at shards shard h e ≡ false = ap (λ o. option_map_or (λ (k : ℕ). k == shard) (option_map (λ (x : Document). shard_of shards x.text) o) false) is ∙ elsewhere in
      let apart : All (λ (x : ℕ × List ℕ). (x.0 == id) ≡ true → is_in shards shard x ≡ false) (documents h) =
      All-map (λ (x : ℕ × List ℕ). (x.0 == id) ≡ true → is_in shards shard x ≡ false) (λ (x : Document). (x.id, x.text)) (live h)
      (All-weaker (λ (x : Document). (x.id == id) ≡ true → x ≡ d) (λ (x : Document). (x.id == id) ≡ true → (shard_of shards x.text == shard) ≡ false)
      (λ x one same. ap (λ (y : Document). shard_of shards y.text == shard) (one same) ∙ elsewhere) (live h) (one_with_id h id d is)) in
      ap documents (part-elsewhere shards shard h e goes)
      ∙ has
      ∙ sym (others_here shards shard id (documents h) apart)
      ∙ sym (ap (filter (is_in shards shard)) (documents-delete h pass id))

  -- a number that is live has a document
  live_document : (id : ℕ) (h : List Event) → is_live id h ≡ true → (d : Document) × (document_with id h ≡ Some d)
  live_document id h present = of (document_with id h) (sym (find_some (λ (d : Document). d.id == id) (live h)) ∙ present) where
    of : (o : Option Document) → is_some o ≡ true → (d : Document) × (o ≡ Some d)
    of None never = cc
    of (Some d) some = (d, refl)

  part-step : (h : List Event) (e : Event) → MayCome h e → PartHas h → PartHas (h ++ e ∷ [])
  part-step h (event.Add pass id text slice column bits) may has = part-added h pass id text slice column bits may has (shard_of shards text == shard) refl
  part-step h (event.Del pass id) may has =
      let d = live_document id h may in
      part-deleted h pass id d.0 d.1 has (shard_of shards d.0.text == shard) refl
  part-step h e may has = absurd may

  -- the live documents of a part are those of the list that go to the shard
  pub part_has : (list : List Event) → AreCommits list → PartHas list
  part_has = by_commits PartHas refl part-step
