-- What a find read of a search's atoms at a column is right of the document that was live there as it began.
use Rattle.std.proofs.Common.{◌≡◌, ℕ, ◌<◌, ◌≤◌, Bool, true, false, cond, List, [], ◌∷◌, map, Contains, refl, sym, ◌∙◌, subst, inl, inr, arith}
use Rattle.std.proofs.lemmas.Bool.{and_parts, false_from_ne_true, false≢true, or_cases}
use Rattle.std.proofs.lemmas.List.Elements.{All-contains, All-head, All-tail, All-weaker}
use Rattle.std.proofs.lemmas.List.Sums.{AllPass-from_list_all}
use Rattle.std.specs.List.{All, list_all, list_any}
use Rattle.std.specs.Option.{is_some}
use Rattle.funnel_model.proofs.AnswerLemmas.{Contains-cons}
use Rattle.funnel_model.proofs.Fills.{bits_on-put}
use Rattle.funnel_model.proofs.SearchLemmas.{alike-through, search-may, search-sure}
use Rattle.funnel_model.proofs.WordLemmas.{Contains-has, each-from_list_all, list_all-from_each}
use Rattle.funnel_model.specs.Configuration.{IsInRange}
use Rattle.funnel_model.specs.Events.{bits_added_in, bits_on, clears, put_on}
use Rattle.funnel_model.specs.History.{Document}
use Rattle.funnel_model.specs.Legal.{IsLegal, Limits}
use Rattle.funnel_model.specs.RowWords.{IsCommitted}
use Rattle.funnel_model.specs.Searches.{AreAlike, Search, has_all}
use Rattle.funnel_model.specs.Sizes.{columns_of_slice, words_of_slice}
use Rattle.funnel_model.specs.Slices.{IsLiveOn}
use Rattle.funnel_model.specs.Tunings.{treat}
use Rattle.funnel_model.specs.Words.{has_word, words}
use Rattle.funnel_model.specs.declared.bit_list.Bit.{Bit}
use Rattle.funnel_model.specs.declared.config.Config.{Config}
use Rattle.funnel_model.specs.declared.event.Event.{Event}
use Rattle.row_layout.proofs.Lists.{Contains-flat_map, Contains-from_flat_map, Contains-from_map}
use Rattle.row_layout.proofs.Owners.{exact-has_row, exact-owned, owned-tells-documents, put_bits-kept}
use Rattle.row_layout.proofs.SetBits.{live_uncleared, put_stands}
use Rattle.row_layout.specs.AtomReads.{AtomPlan, AtomRead, BitRead, unread, as_zero, as_set, IsOfItsOwner, IsPlanOf, Tells, WasReadAfter, WasReadAs, is_known, is_ruled_out, is_set_read, is_zero}
use Rattle.row_layout.specs.DocumentBits.{bit_of_row}
use Rattle.row_layout.specs.Laws.{ReadSearchesTellTexts}
use Rattle.row_layout.specs.Owners.{Owns, OwnsIn, is_exact}
use Rattle.row_layout.specs.Rows.{row_of_word, rows_of_word, rows_of_words}
use Rattle.row_layout.specs.Sound.{IsSound}
use Rattle.row_layout.specs.declared.row.Row.{Row}

module _ (IsZero IsSet : Bit → Type 0) where
  tells_zero : (read : BitRead) (bit : Bit) → is_zero read ≡ true → Tells IsZero IsSet read bit → IsZero bit
  tells_zero as_zero bit is told = told
  tells_zero as_set bit is told = absurd (false≢true is)
  tells_zero unread bit is told = absurd (false≢true is)

  tells_set : (read : BitRead) (bit : Bit) → is_set_read read ≡ true → Tells IsZero IsSet read bit → IsSet bit
  tells_set as_set bit is told = told
  tells_set as_zero bit is told = absurd (false≢true is)
  tells_set unread bit is told = absurd (false≢true is)

  module _ (bit_of : Row → Bit) where
    -- a bit that was read as zero is one of a planned row
    zero_row : (bits : List (Row × BitRead)) → list_any (λ b. is_zero b.1) bits ≡ true → All (λ b. Tells IsZero IsSet b.1 (bit_of b.0)) bits →
        (row : Row) × Contains (map (λ b. b.0) bits) row × IsZero (bit_of row)
    zero_row [] found told = absurd (false≢true found)
    zero_row (b ∷ bits) found told =
        let tells : (Row × BitRead) → Type 0 = λ b. Tells IsZero IsSet b.1 (bit_of b.0) in
        elim (or_cases (is_zero b.1) (list_any (λ b. is_zero b.1) bits) found) [
          | inl here ↦ (b.0, (0, omega arith, refl), tells_zero b.1 (bit_of b.0) here (All-head tells b bits told))
          | inr later ↦ let r = zero_row bits later (All-tail tells b bits told) in (r.0, Contains-cons b.0 (map (λ b. b.0) bits) r.0 r.1, r.2)
        ]

    -- and where each was read as set, so was that of each planned row
    set_row : (bits : List (Row × BitRead)) → list_all (λ b. is_set_read b.1) bits ≡ true → All (λ b. Tells IsZero IsSet b.1 (bit_of b.0)) bits →
        (row : Row) → Contains (map (λ b. b.0) bits) row → IsSet (bit_of row)
    set_row bits all told row has =
        let r = Contains-from_map (λ b. b.0) bits row has in
        let is : is_set_read (r.0).1 ≡ true =
        All-contains (λ b. is_set_read b.1 ≡ true) bits r.0 (AllPass-from_list_all (λ b. is_set_read b.1) bits all) r.1 in
        subst (λ (x : Row). IsSet (bit_of x)) (sym r.2)
        (tells_set (r.0).1 (bit_of (r.0).0) is (All-contains (λ b. Tells IsZero IsSet b.1 (bit_of b.0)) bits r.0 told r.1))

-- the bits of the document that an event puts on a column are among those that it adds in the slice
in_cond : (b : Bool) (bits : List Bit) (bit : Bit) → Contains (cond b bits []) bit → Contains bits bit
in_cond true bits bit has = has
in_cond false bits bit has = absurd (omega (arith, has.1))

added_bits : (slice column : ℕ) (e : Event) (bit : Bit) → Contains (bits_on slice column e) bit → Contains (bits_added_in slice e) bit
added_bits slice column e bit has =
    in_cond (is_some (put_on slice column e)) (bits_added_in slice e) bit (subst (λ (bits : List Bit). Contains bits bit) (bits_on-put slice column e) has)

module _ (limits : Limits) (opening : Config) (history : List Event) (slice column : ℕ) (document : Document) (since : ℕ)
    (legal : IsLegal limits history) (sound : IsSound opening history) (room : limits.slice_words ≡ words_of_slice opening)
    (in_range : IsInRange (treat opening slice history)) (in_engine : column < limits.columns)
    (in_slice : column < columns_of_slice (treat opening slice history)) (fits : words_of_slice (treat opening slice history) ≤ words_of_slice opening)
    (lives : IsLiveOn history slice column document since) where
  abbrev config : Config
  config = treat opening slice history

  abbrev bit_at : Row → Bit
  bit_at = bit_of_row (words_of_slice opening) slice column

  stays : list_any (clears slice) lives.later ≡ false
  stays = live_uncleared limits history slice column document since legal lives

  -- each bit of the document is committed
  committed : (bit : Bit) → Contains (bits_on slice column lives.put.event) bit → IsCommitted history slice bit
  committed bit has = record {
    earlier = lives.put.earlier;
    event = lives.put.event;
    later = lives.later;
    whole = lives.put.whole;
    added = added_bits slice column lives.put.event bit has;
    stays = stays;
  }

  -- so is that of each row of a word that the document has
  pub row-committed : (word : List ℕ) (row : Row) → Contains (words document.text) word → Contains (rows_of_word config word) row → IsCommitted history slice (bit_at row)
  row-committed word row has its_row =
      let bits = put_bits-kept limits opening history slice column document since lives.later legal sound lives.put stays in
      committed (bit_at row) ((bits.exactly (bit_at row)).1 (row, Contains-flat_map (rows_of_word config) (words document.text) word row has its_row, refl))

  -- an exact word whose bit is of the column's document is one of its words
  exact-has : (word : List ℕ) (row : Row) → is_exact config word ≡ true → Contains (rows_of_word config word) row →
      IsOfItsOwner limits opening history slice column (bit_at row) → Contains (words document.text) word
  exact-has word row exact its_row is_of =
      let owns : Owns limits opening history slice column (bit_at row) = record {
        in_engine = in_engine;
        treated = subst (λ n. OwnsIn n config slice column (bit_at row)) (sym room) (exact-owned (words_of_slice opening) config slice column word row fits in_slice exact its_row);
      } in
      owned-tells-documents limits opening history slice column document since lives.later word row legal sound lives.put stays in_range in_slice exact its_row
      (is_of owns lives.put.event (put_stands history slice column document since lives.later lives.put stays))

  module _ (set : List (List ℕ)) (read : AtomRead) (was : WasReadAfter limits opening history slice column set read) where
    -- a planned row is one of a word of the atom
    planned-row : (row : Row) → Contains (map (λ b. b.0) read.bits) row → Contains (rows_of_words config set) row
    planned-row row has = (was.planned.rows row).0 (subst (λ (rs : List Row). Contains rs row) was.read_as.of_plan.rows has)

    row-planned : (row : Row) → Contains (rows_of_words config set) row → Contains (map (λ b. b.0) read.bits) row
    row-planned row has = subst (λ (rs : List Row). Contains rs row) (sym was.read_as.of_plan.rows) ((was.planned.rows row).1 has)

    -- a document that has all words of the atom isn't ruled out
    read-open : has_all document.text set ≡ true → is_ruled_out read ≡ false
    read-open all =
        false_from_ne_true (is_ruled_out read) (λ ruled.
        let zero = zero_row (λ bit. IsCommitted history slice bit → ⊥) (IsOfItsOwner limits opening history slice column) bit_at read.bits ruled was.read_as.tells in
        let of = Contains-from_flat_map (rows_of_word config) set zero.0 (planned-row zero.0 zero.1) in
        let has : Contains (words document.text) of.0 =
        (Contains-has of.0 (words document.text)).1 (each-from_list_all (has_word document.text) set all of.0 ((Contains-has of.0 set).0 of.1)) in
        zero.2 (row-committed of.0 zero.0 has of.2))

    -- and one whose atom is known has them all
    read-has : is_known read ≡ true → has_all document.text set ≡ true
    read-has known =
        let both = and_parts read.exact (list_all (λ b. is_set_read b.1) read.bits) known in
        let exact : list_all (is_exact config) set ≡ true = sym (was.read_as.of_plan.exact ∙ was.planned.exact) ∙ both.0 in
        list_all-from_each (has_word document.text) set (λ word has.
        let is_exact_word = each-from_list_all (is_exact config) set exact word has in
        let row = row_of_word config word 0 in
        let its_row = exact-has_row config word is_exact_word in
        let planned = row-planned row (Contains-flat_map (rows_of_word config) set word row ((Contains-has word set).1 has) its_row) in
        let is_of = set_row (λ bit. IsCommitted history slice bit → ⊥) (IsOfItsOwner limits opening history slice column) bit_at read.bits both.1 was.read_as.tells row planned in
        (Contains-has word (words document.text)).0 (exact-has word row is_exact_word its_row is_of))

pub tells-weaker : (IsZero IsSet Zero Set : Bit → Type 0) → ((bit : Bit) → IsZero bit → Zero bit) → ((bit : Bit) → IsSet bit → Set bit)
    → (read : BitRead) (bit : Bit) → Tells IsZero IsSet read bit → Tells Zero Set read bit
tells-weaker IsZero IsSet Zero Set zero set as_zero bit tells = zero bit tells
tells-weaker IsZero IsSet Zero Set zero set as_set bit tells = set bit tells
tells-weaker IsZero IsSet Zero Set zero set unread bit tells = tt

-- A search that was planned for the column's slice and read by its plan was read after the history, where a bit that was read as zero is
-- of no document and one that was read as set is of the column's.
module _ (limits : Limits) (opening : Config) (history : List Event) (slice column : ℕ) (IsZero IsSet : Bit → Type 0)
    (zero : (bit : Bit) → IsZero bit → IsCommitted history slice bit → ⊥) (set : (bit : Bit) → IsSet bit → IsOfItsOwner limits opening history slice column bit) where
  abbrev Zero : Bit → Type 0
  Zero bit = IsCommitted history slice bit → ⊥

  abbrev Set : Bit → Type 0
  Set = IsOfItsOwner limits opening history slice column

  abbrev its_bit : Row → Bit
  its_bit = bit_of_row (words_of_slice opening) slice column

  atom-read : (words : List (List ℕ)) (plan : AtomPlan) (read : AtomRead) → IsPlanOf (treat opening slice history) words plan
      → WasReadAs IsZero IsSet its_bit plan read → WasReadAfter limits opening history slice column words read
  atom-read words plan read planned was = record {
    plan = plan;
    planned = planned;
    read_as = record {
      of_plan = was.of_plan;
      tells = All-weaker (λ (b : Row × BitRead). Tells IsZero IsSet b.1 (its_bit b.0)) (λ (b : Row × BitRead). Tells Zero Set b.1 (its_bit b.0))
          (λ b. tells-weaker IsZero IsSet Zero Set zero set b.1 (its_bit b.0)) read.bits was.tells;
    };
  }

  pub search-read : (search : Search (List (List ℕ))) (plan : Search AtomPlan) (read : Search AtomRead)
      → AreAlike (IsPlanOf (treat opening slice history)) search plan → AreAlike (WasReadAs IsZero IsSet its_bit) plan read
      → AreAlike (WasReadAfter limits opening history slice column) search read
  search-read =
      alike-through (IsPlanOf (treat opening slice history)) (WasReadAs IsZero IsSet its_bit) (WasReadAfter limits opening history slice column) atom-read

pub read-tells_texts : ReadSearchesTellTexts
read-tells_texts limits opening history slice column document since search read legal sound room in_range in_engine in_slice fits lives alike =
    let right = read-open limits opening history slice column document since legal sound room in_range in_engine in_slice fits lives in
    let has = read-has limits opening history slice column document since legal sound room in_range in_engine in_slice fits lives in (
      search-may (WasReadAfter limits opening history slice column) (has_all document.text) is_ruled_out is_known
          (λ set read was all. right set read was all) (λ set read was known. has set read was known) search read alike,
      search-sure (WasReadAfter limits opening history slice column) (has_all document.text) is_ruled_out is_known
          (λ set read was all. right set read was all) (λ set read was known. has set read was known) search read alike,
    )
