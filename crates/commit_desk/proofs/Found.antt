-- What a find finds of its candidates by the records is what they give by the history before it, although other passes made events since.
use Rattle.std.proofs.Common.{◌≡◌, ℕ, Bool, true, false, cond, ◌&&◌, List, [], ◌∷◌, filter_map, Option, Some, None, refl, sym, ap, ◌∙◌, subst, arith, Contains}
use Rattle.std.proofs.lemmas.Bool.{and_from, and_parts, false_from_ne_true, lt-ltb, ltb-true}
use Rattle.std.specs.Prelude.{nat_lt}
use Rattle.document_store.proofs.FoundLemmas.{AddedAt, HadLive, WasLiveAt, kept_in-gives, kept_in-tells, looked_elsewhere, looked_where_live}
use Rattle.document_store.specs.Documents.{Parts}
use Rattle.document_store.specs.Finding.{kept_at, looked_at}
use Rattle.document_store.specs.Slots.{FitsColumn, IsColumn, Table, slot_at}
use Rattle.document_store.specs.declared.column.Column.{Column}
use Rattle.document_store.specs.declared.column.Column.TheVariants as became
use Rattle.funnel_model.specs.declared.config.Config.{Config}
use Rattle.funnel_model.specs.declared.event.Event.{Event}
use Rattle.funnel_model.specs.declared.event.Event.TheVariants as event
use Rattle.funnel_model.specs.History.{Document}
use Rattle.funnel_model.specs.Legal.{IsLegal, Limits}
use Rattle.funnel_model.specs.Slices.{IsInState, IsInUse, IsLiveOn, is_clearing}
use Rattle.funnel_model.specs.Tokens.{HasToken, seen_by}
use Rattle.funnel_model.proofs.AnswerLemmas.{Contains-cons}
use Rattle.funnel_model.proofs.Clears.{read_not_clearing}
use Rattle.funnel_model.proofs.Columns.{one_state}
use Rattle.funnel_model.proofs.Histories.{legal_before}
use Rattle.funnel_model.proofs.LiveColumns.{live_column_is_live, live_on_one_column}
use Rattle.funnel_model.proofs.SeenColumns.{sees_all_that_was_live, sees_what_was_live}
use Rattle.row_layout.specs.Sound.{IsSound}
use Rattle.commit_desk.specs.Records.{AreRecorded, document_added_at, state_in, state_of}
use Rattle.commit_desk.specs.Judging.{AreGivenWhere, GivesWhere}
use Rattle.commit_desk.specs.Resolving.{AreLookedFor}

-- a column is recorded with a document that the find with this number sees
pub record KeptAt (c : Column) (doc : Option Parts) (d : Document) (number : ℕ) : Type 0 where
  pub parts : Parts
  pub kept : doc ≡ Some parts
  pub live_at : WasLiveAt c number
  pub added : AddedAt c d.place
  pub is : document_added_at d.place parts ≡ d

-- a document that is chosen by a test
seen_parts : (b : Bool) (d e : Document) → cond {A = Option Document} b (Some d) None ≡ Some e → (b ≡ true) × (d ≡ e)
seen_parts true d e sees = (refl, cc)
seen_parts false d e sees = cc

-- it is where the find sees the document in the state of the column
pub kept_seen : (number : ℕ) (d : Document) (c : Column) (doc : Option Parts) → FitsColumn c doc → seen_by number (state_in c doc) ≡ Some d → KeptAt c doc d number
kept_seen number d became.Free doc fits sees = cc
kept_seen number d (became.Pending pass) doc fits sees = cc
kept_seen number d (became.Live added since) doc fits sees =
    let this = document_added_at added fits.0 in
    let both = seen_parts (nat_lt since number) this d (sym (ap (λ o. seen_by number (state_in (became.Live added since) o)) fits.1) ∙ sees) in
    let at : added ≡ d.place = ap (λ (x : Document). x.place) both.1 in record {
      parts = fits.0;
      kept = fits.1;
      live_at = ltb-true since number both.0;
      added = at;
      is = ap (λ m. document_added_at m fits.0) (sym at) ∙ both.1;
    }
kept_seen number d (became.Over added since until) doc fits sees =
    let this = document_added_at added fits.0 in
    let both = seen_parts (nat_lt since number && nat_lt number until) this d (sym (ap (λ o. seen_by number (state_in (became.Over added since until) o)) fits.1) ∙ sees) in
    let during = and_parts (nat_lt since number) (nat_lt number until) both.0 in
    let at : added ≡ d.place = ap (λ (x : Document). x.place) both.1 in record {
      parts = fits.0;
      kept = fits.1;
      live_at = (ltb-true since number during.0, ltb-true number until during.1);
      added = at;
      is = ap (λ m. document_added_at m fits.0) (sym at) ∙ both.1;
    }
kept_seen number d became.Dropped doc fits sees = cc

-- and the find sees such a document in the state of its column
pub seen_then : (number added : ℕ) (doc : Parts) (c : Column) (kept : Option Parts) → WasLiveAt c number → AddedAt c added → kept ≡ Some doc →
    seen_by number (state_in c kept) ≡ Some (document_added_at added doc)
seen_then number added doc became.Free kept was at is = absurd was
seen_then number added doc (became.Pending pass) kept was at is = absurd was
seen_then number added doc (became.Live a since) kept was at is =
    ap (λ o. seen_by number (state_in (became.Live a since) o)) is
    ∙ ap (λ b. cond {A = Option Document} b (Some (document_added_at a doc)) None) (lt-ltb since number was)
    ∙ ap (λ m. Some (document_added_at m doc)) at
seen_then number added doc (became.Over a since until) kept was at is =
    ap (λ o. seen_by number (state_in (became.Over a since until) o)) is
    ∙ ap (λ b. cond {A = Option Document} b (Some (document_added_at a doc)) None)
    (and_from (nat_lt since number) (nat_lt number until) (lt-ltb since number was.0) (lt-ltb number until was.1))
    ∙ ap (λ m. Some (document_added_at m doc)) at
seen_then number added doc became.Dropped kept was at is = absurd was

module _ (opening : Config) (limits : Limits) (history : List Event) (table : Table) (legal : IsLegal limits history) (sound : IsSound opening history)
    (recorded : AreRecorded limits history table) (pass number : ℕ) (token : HasToken history pass number) where
  pub legal_earlier : IsLegal limits token.earlier
  legal_earlier = legal_before limits token.earlier (event.Find pass token.query ∷ token.later) (subst (IsLegal limits) token.whole legal)

  -- a slice that was in use isn't being cleared
  pub open_now : (slice : ℕ) → IsInUse limits.columns slice token.earlier → is_clearing slice history ≡ false
  open_now slice used = read_not_clearing limits history pass slice legal (record { number = number; token = token; in_use = used })

  -- a column in which a document was live is recorded with it
  kept_where_live : (slice column : ℕ) (d : Document) (since : ℕ) → IsColumn table slice column → IsInUse limits.columns slice token.earlier → IsLiveOn token.earlier slice column d since →
      KeptAt (slot_at table slice column).column (slot_at table slice column).doc d number
  kept_where_live slice column d since in_table used lives =
      let slot = slot_at table slice column in
      let rec = recorded.each slice column in_table (open_now slice used) in
      let seen = sees_all_that_was_live limits history pass number d legal token (live_column_is_live token.earlier slice column d since lives) in
      let one = live_on_one_column limits token.earlier seen.0 seen.1 slice column seen.2 since d d legal_earlier seen.6 lives refl in
      let here : IsInState history slice column seen.3 = subst (λ s. IsInState history s column seen.3) one.0 (subst (λ k. IsInState history seen.0 k seen.3) one.1 seen.9) in
      kept_seen number d slot.column slot.doc rec.fits (ap (seen_by number) (one_state limits history slice column (state_of slot) seen.3 legal rec.state here) ∙ seen.10)

  -- and a document that is recorded so was live in its column
  was_live_where_kept : (slice column : ℕ) → IsColumn table slice column → IsInUse limits.columns slice token.earlier → (had : HadLive (slot_at table slice column) number) →
      (since : ℕ) × IsLiveOn token.earlier slice column (document_added_at had.place had.doc) since
  was_live_where_kept slice column in_table used had =
      let slot = slot_at table slice column in
      let rec = recorded.each slice column in_table (open_now slice used) in
      sees_what_was_live limits history pass number slice column (state_of slot) (document_added_at had.place had.doc) legal token used rec.state
      (seen_then number had.place had.doc slot.column slot.doc had.was_live had.added had.kept)

  -- so many words are looked for in candidates by the table
  pub table_looks : (cost : ℕ) (candidates : List (ℕ × ℕ)) →
      ((candidate : ℕ × ℕ) → Contains candidates candidate → IsColumn table candidate.0 candidate.1 × IsInUse limits.columns candidate.0 token.earlier) →
      AreLookedFor token.earlier cost candidates (looked_at table cost number)
  table_looks cost candidates each = record {
    where_live = λ candidate has d since lives.
        let of = each candidate has in
        let at = kept_where_live candidate.0 candidate.1 d since of.0 of.1 lives in
        looked_where_live (slot_at table candidate.0 candidate.1) cost number (record { place = d.place; doc = at.parts; was_live = at.live_at; added = at.added; kept = at.kept });
    elsewhere = λ candidate has none.
        let of = each candidate has in
        looked_elsewhere (slot_at table candidate.0 candidate.1) cost number
        (λ had. let was = was_live_where_kept candidate.0 candidate.1 of.0 of.1 had in none (document_added_at had.place had.doc) was.0 was.1);
  }

  -- what the table gives of a candidate is what the candidate gives
  table_keeps : (test : List ℕ → Bool) (slice column : ℕ) → IsColumn table slice column → IsInUse limits.columns slice token.earlier → (given : Option (ℕ × ℕ)) →
      kept_at table test number (slice, column) ≡ given → GivesWhere token.earlier test (slice, column) given
  table_keeps test slice column in_table used (Some found) gives =
      let is = kept_in-tells (slot_at table slice column) test number found gives in
      let was = was_live_where_kept slice column in_table used (record { place = found.0; doc = is.doc; was_live = is.was_live; added = is.added; kept = is.kept }) in
      (document_added_at found.0 is.doc, was.0, was.1, is.passes, ap (λ n. (found.0, n)) (sym is.id_is))
  table_keeps test slice column in_table used None none = λ d since lives.
      false_from_ne_true (test d.text) (λ passes.
      let at = kept_where_live slice column d since in_table used lives in
      let text : at.parts.text ≡ d.text = ap (λ (y : Document). y.text) at.is in
      let gives =
      kept_in-gives (slot_at table slice column) test number (d.place, d.id)
      (record { doc = at.parts; was_live = at.live_at; added = at.added; kept = at.kept; id_is = ap (λ (y : Document). y.id) at.is; passes = ap test text ∙ passes }) in
      none_is_some (sym none ∙ gives))
    where
      none_is_some : {Y : Type 0} {y : Y} → None ≡ Some y → ⊥
      none_is_some is = cc

  -- and the same of several
  pub table_keeps_each : (test : List ℕ → Bool) (candidates : List (ℕ × ℕ)) →
      ((candidate : ℕ × ℕ) → Contains candidates candidate → IsColumn table candidate.0 candidate.1 × IsInUse limits.columns candidate.0 token.earlier) →
      AreGivenWhere token.earlier test candidates (filter_map (kept_at table test number) candidates)
  table_keeps_each test [] each = refl
  table_keeps_each test (candidate ∷ later) each =
      let first = each candidate (0, omega arith, refl) in (
        kept_at table test number candidate,
        filter_map (kept_at table test number) later,
        table_keeps test candidate.0 candidate.1 first.0 first.1 (kept_at table test number candidate) refl,
        table_keeps_each test later (λ other has. each other (Contains-cons candidate later other has)),
        refl,
      )
