-- The lines that a reader gives, one after another, are those of all the bytes.
use Rattle.std.proofs.Common.{◌≡◌, ◌≢◌, ℕ, ◌<◌, Bool, true, false, ◌||◌, nat_lt, List, [], ◌∷◌, ◌++◌, ◌⊎◌, length, refl, sym, ap, ◌∙◌, subst, inl, inr, arith, append_assoc, append-nil, length-append}
use Rattle.std.specs.Prelude.{MatchBool, if◌then◌else◌}
use Rattle.std.proofs.lemmas.Bool.{true≢false}
use Rattle.std.proofs.lemmas.Bool.Decides.{leb_tells}
use Rattle.std.proofs.lemmas.List.Concat.{flat_map-append}
use Rattle.std.proofs.lemmas.List.Elements.{All-append, All-contains, All-push, All-nil}
use Rattle.funnel_io.specs.Lines.{Cut, HasNoNewline, with_newlines, last_line, lines, cut, whole_lines, rest_of}
use Rattle.funnel_io.specs.LineReading.{ReaderState, HoldsEnd, HasGiven, IsCutAtNewline, IsCutAtEnd, Gives, GivesLine, IsDecided, line_failed}
use Rattle.funnel_io.specs.LineSteps.{IsOfBytes, KeepsEnd}
use Rattle.funnel_io.specs.declared.line_reader.Line.{Line}
use Rattle.funnel_io.specs.declared.line_reader.Line.TheVariants as answer
use Rattle.funnel_io.proofs.CutLaws.{only_cut, cut_on}

-- two lists without newline are one
pub clean-append : (xs ys : List ℕ) → HasNoNewline xs → HasNoNewline ys → HasNoNewline (xs ++ ys)
clean-append xs ys first second = All-append (λ byte. byte ≢ 10) xs ys first second

-- nothing of these bytes was dropped
pub holds_all : (held rest : List ℕ) → held ≡ rest → HoldsEnd held false rest
holds_all held rest is = record {
  dropped = [];
  joined = sym is;
  clean = All-nil (λ (byte : ℕ). byte ≢ 10);
  count = refl;
}

dropped_more : (long : Bool) (dropped held : List ℕ) → MatchBool long (65536 < length dropped) (dropped ≡ [])
    → (long ≡ true) ⊎ (65536 < length held) → 65536 < length (dropped ++ held)
dropped_more true dropped held count too_long = omega (arith, length-append dropped held, count)
dropped_more false dropped held count (inl not_so) = cc
dropped_more false dropped held count (inr too_long) = omega (arith, length-append dropped held)

-- bytes of a line that is too long may be dropped
pub keeps_dropped : (held : List ℕ) (long : Bool) → HasNoNewline held → (long ≡ true) ⊎ (65536 < length held)
    → KeepsEnd held long [] true
keeps_dropped held long clean too_long rest end = record {
  dropped = end.dropped ++ held;
  joined = end.joined ∙ sym (append-nil (end.dropped ++ held));
  clean = clean-append end.dropped held end.clean clean;
  count = dropped_more long end.dropped held end.count too_long;
}

-- where the source is not at its end, newlines ended the lines that were given
at_newline : (taken : List ℕ) (given : List (List ℕ)) (rest : List ℕ) (ended : Bool) → ended ≡ false
    → IsCutAtNewline taken given rest ⊎ IsCutAtEnd taken given rest ended → IsCutAtNewline taken given rest
at_newline taken given rest ended not_at_end (inl cut) = cut
at_newline taken given rest ended not_at_end (inr cut) = absurd (true≢false (sym cut.at_end ∙ not_at_end))

further : (taken : List ℕ) (given : List (List ℕ)) (rest bytes : List ℕ) → IsCutAtNewline taken given rest
    → IsCutAtNewline (taken ++ bytes) given (rest ++ bytes)
further taken given rest bytes cut = record {
  joined = ap (λ xs. xs ++ bytes) cut.joined ∙ append_assoc (with_newlines given) rest bytes;
  clean = cut.clean;
}

-- bytes that were read behind those held give no further line yet
pub reads_on : (old new : ReaderState) (held bytes : List ℕ) → old.ended ≡ false → KeepsEnd old.held old.long held new.long → new.held ≡ held ++ bytes
    → (taken : List ℕ) (given : List (List ℕ)) → HasGiven old taken given → HasGiven new (taken ++ bytes) given
reads_on old new held bytes not_at_end keeps grown taken given so_far =
    let end : HoldsEnd held new.long so_far.rest = keeps so_far.rest so_far.holds in
    record {
      rest = so_far.rest ++ bytes;
      holds = record {
        dropped = end.dropped;
        joined = ap (λ all. all ++ bytes) end.joined
            ∙ (append_assoc end.dropped held bytes ∙ ap (λ all. end.dropped ++ all) (sym grown));
        clean = end.clean;
        count = end.count;
      };
      cut = inl (further taken given so_far.rest bytes (at_newline taken given so_far.rest old.ended not_at_end so_far.cut));
    }

-- where no answer is decided and something may be read
pub undecided : (now : ReaderState) (may : ℕ) → HasNoNewline now.held → now.ended ≡ false → 0 < may → IsDecided now may → ⊥
undecided now may clean not_at_end some (inl newline) = All-contains (λ byte. byte ≢ 10) now.held 10 clean newline refl
undecided now may clean not_at_end some (inr (inl at_end)) = cc
undecided now may clean not_at_end some (inr (inr nothing)) = omega arith

-- a line that ended is long where bytes of it were dropped, or where it is itself too long
judged : (long : Bool) (line dropped taken : List ℕ) (given : List (List ℕ)) (new : ReaderState) (result : Line)
    → result ≡ (if long || nat_lt 65536 (length line) then answer.Long else answer.Whole)
    → MatchBool long (65536 < length dropped) (dropped ≡ [])
    → new.line ≡ line → GivesLine new taken given (dropped ++ line)
    → Gives result taken given new
judged true line dropped taken given new result is count same gives =
    rw is (dropped ++ line, omega (arith, length-append dropped line, count), gives)
judged false line dropped taken given new result is count same gives =
    let none_dropped : dropped ++ line ≡ line = ap (λ xs. xs ++ line) count in
    let whole : GivesLine new taken given line = subst (GivesLine new taken given) none_dropped gives in
    elim (leb_tells 65537 (length line)) [
      | inl longer ↦ rw (is, longer.0) (line, omega (arith, longer.1), whole)
      | inr fits ↦ rw (is, fits.0) (subst (GivesLine new taken given) (sym same) whole)
    ]

with_newlines-push : (given : List (List ℕ)) (line rest : List ℕ)
    → with_newlines given ++ (line ++ 10 ∷ rest) ≡ with_newlines (given ++ line ∷ []) ++ rest
with_newlines-push given line rest =
    ap (λ xs. with_newlines given ++ xs) (sym (append_assoc line (10 ∷ []) rest))
    ∙ (sym (append_assoc (with_newlines given) (line ++ 10 ∷ []) rest)
    ∙ ap (λ xs. xs ++ rest)
    (sym (flat_map-append (λ (l : List ℕ). l ++ 10 ∷ []) given (line ∷ [])
    ∙ ap (λ last. with_newlines given ++ last) (append-nil (line ++ 10 ∷ [])))))

no_newline_in_none : (dropped line behind : List ℕ) → dropped ++ (line ++ 10 ∷ behind) ≡ [] → ⊥
no_newline_in_none dropped line behind none =
    omega (arith, ap length none, length-append dropped (line ++ 10 ∷ behind), length-append line (10 ∷ behind))

-- a newline ended the line at hand
pub line_at_newline : (old new : ReaderState) (line behind : List ℕ) (result : Line)
    → result ≡ (if old.long || nat_lt 65536 (length line) then answer.Long else answer.Whole)
    → old.held ≡ line ++ 10 ∷ behind → HasNoNewline line
    → new ≡ record { held = behind; long = false; ended = old.ended; line = line }
    → (taken : List ℕ) (given : List (List ℕ)) → HasGiven old taken given → Gives result taken given new
line_at_newline old new line behind result is split clean new_is taken given so_far =
    let end = so_far.holds in
    let whole : so_far.rest ≡ end.dropped ++ (line ++ 10 ∷ behind) = end.joined ∙ ap (λ xs. end.dropped ++ xs) split in
    let here : IsCutAtNewline taken given so_far.rest =
    elim so_far.cut [ inl cut ↦ cut | inr cut ↦ absurd (no_newline_in_none end.dropped line behind (sym whole ∙ cut.nothing_after)) ] in
    judged old.long line end.dropped taken given new result is end.count (ap (λ (r : ReaderState). r.line) new_is)
    (rw new_is (record {
      rest = behind;
      holds = holds_all behind behind refl;
      cut = inl (record {
        joined = here.joined ∙ (ap (λ xs. with_newlines given ++ xs) (whole ∙ sym (append_assoc end.dropped line (10 ∷ behind)))
            ∙ with_newlines-push given (end.dropped ++ line) behind);
        clean = All-push HasNoNewline given (end.dropped ++ line) here.clean (clean-append end.dropped line end.clean clean);
      });
    }))

-- the lines of joined lines and a rest without newline
pub lines_of_cut : (taken : List ℕ) (given : List (List ℕ)) (rest : List ℕ) (ended : Bool) → IsCutAtNewline taken given rest → HasNoNewline rest
    → lines taken ended ≡ given ++ last_line rest ended
lines_of_cut taken given rest ended here clean =
    let back : Cut → List (List ℕ) = λ c. c.whole ++ last_line c.rest ended in
    ap back (ap cut here.joined ∙ only_cut given rest here.clean clean)

-- a line of its own at the end
last_alone : (line : List ℕ) → line ≢ [] → last_line line true ≡ line ∷ []
last_alone [] some = absurd (some refl)
last_alone (byte ∷ line) some = refl

some_bytes : (long : Bool) (dropped held : List ℕ) → MatchBool long (65536 < length dropped) (dropped ≡ [])
    → (long ≡ true) ⊎ (0 < length held) → dropped ++ held ≢ []
some_bytes true dropped held count some none = absurd (omega (arith, length-append dropped held, ap length none, count))
some_bytes false dropped held count (inl not_so) none = cc
some_bytes false dropped held count (inr some) none = absurd (omega (arith, length-append dropped held, ap length none))

-- the source's end ended the line at hand
pub line_at_end : (old new : ReaderState) (result : Line)
    → result ≡ (if old.long || nat_lt 65536 (length old.held) then answer.Long else answer.Whole)
    → HasNoNewline old.held → old.ended ≡ true → (old.long ≡ true) ⊎ (0 < length old.held)
    → new ≡ record { held = []; long = false; ended = old.ended; line = old.held }
    → (taken : List ℕ) (given : List (List ℕ)) → HasGiven old taken given → Gives result taken given new
line_at_end old new result is clean at_end some new_is taken given so_far =
    let end = so_far.holds in
    let all : List ℕ = end.dropped ++ old.held in
    let not_empty : all ≢ [] = some_bytes old.long end.dropped old.held end.count some in
    let here : IsCutAtNewline taken given all =
    elim so_far.cut [
      | inl cut ↦ subst (IsCutAtNewline taken given) end.joined cut
      | inr cut ↦ absurd (not_empty (sym end.joined ∙ cut.nothing_after))
    ] in
    judged old.long old.held end.dropped taken given new result is end.count (ap (λ (r : ReaderState). r.line) new_is)
    (rw new_is (record {
      rest = [];
      holds = holds_all [] [] refl;
      cut = inr (record {
        all = lines_of_cut taken given all true here (clean-append end.dropped old.held end.clean clean)
            ∙ ap (λ xs. given ++ xs) (last_alone all not_empty);
        nothing_after = refl;
        at_end = at_end;
      });
    }))

-- all lines were given
pub finished : (now : ReaderState) → now.held ≡ [] → now.long ≡ false → now.ended ≡ true
    → (taken : List ℕ) (given : List (List ℕ)) → HasGiven now taken given → Gives answer.Finished taken given now
finished now none short at_end taken given so_far =
    let end = so_far.holds in
    let nothing : so_far.rest ≡ [] = end.joined ∙ (ap (λ xs. xs ++ now.held) (rw short at end.count) ∙ none) in (
      elim so_far.cut [
        | inl cut ↦ lines_of_cut taken given [] true (subst (IsCutAtNewline taken given) nothing cut) (All-nil (λ (byte : ℕ). byte ≢ 10)) ∙ append-nil given
        | inr cut ↦ cut.all
      ],
      at_end,
      so_far,
      none,
    )

-- no further line ended, where no newline is held and the source is not at its end
pub stopped : (now : ReaderState) → HasNoNewline now.held → now.ended ≡ false
    → (taken : List ℕ) (given : List (List ℕ)) → HasGiven now taken given → lines taken false ≡ given
stopped now clean not_at_end taken given so_far =
    let end = so_far.holds in
    lines_of_cut taken given so_far.rest false (at_newline taken given so_far.rest now.ended not_at_end so_far.cut)
    (subst HasNoNewline (sym end.joined) (clean-append end.dropped now.held end.clean clean))
    ∙ append-nil given

-- nor do further bytes without newline
pub still_given : (now : ReaderState) (bytes : List ℕ) → HasNoNewline (now.held ++ bytes) → now.ended ≡ false
    → (taken : List ℕ) (given : List (List ℕ)) → HasGiven now taken given → lines (taken ++ bytes) false ≡ given
still_given now bytes clean not_at_end taken given so_far =
    let end = so_far.holds in
    lines_of_cut (taken ++ bytes) given (so_far.rest ++ bytes) false
    (further taken given so_far.rest bytes (at_newline taken given so_far.rest now.ended not_at_end so_far.cut))
    (subst HasNoNewline (sym (ap (λ xs. xs ++ bytes) end.joined ∙ append_assoc end.dropped now.held bytes)) (clean-append end.dropped (now.held ++ bytes) end.clean clean))
    ∙ append-nil given

-- what the bytes at hand decide is no failure
pub not_failed : (given : Line) → IsOfBytes given → line_failed given ≡ false
not_failed answer.Whole so = refl
not_failed answer.Long so = refl
not_failed answer.Finished so = refl
not_failed answer.Failed so = absurd so
not_failed answer.Limit so = absurd so

-- after lines that newlines ended, what follows is cut by itself
pub lines_on : (taken : List ℕ) (given : List (List ℕ)) (rest : List ℕ) (ended : Bool) → IsCutAtNewline taken given rest
    → lines taken ended ≡ given ++ lines rest ended
lines_on taken given rest ended here =
    let front : List ℕ = with_newlines given in
    let cut_front : cut front ≡ record { whole = given; rest = [] } =
    ap cut (sym (append-nil front)) ∙ only_cut given [] here.clean (All-nil (λ (byte : ℕ). byte ≢ 10)) in
    let back : Cut → List (List ℕ) = λ c. c.whole ++ last_line c.rest ended in
    let on : Cut → Cut = λ c. record { whole = c.whole ++ whole_lines (c.rest ++ rest); rest = rest_of (c.rest ++ rest) } in
    ap back (ap cut here.joined ∙ cut_on front rest ∙ ap on cut_front)
    ∙ append_assoc given (whole_lines rest) (last_line (rest_of rest) ended)

-- the lines that were given are the first of all, at the end of the source too
pub given_first : (reader : ReaderState) (taken : List ℕ) (given : List (List ℕ)) → HasGiven reader taken given
    → (others : List (List ℕ)) × (lines taken true ≡ given ++ others)
given_first reader taken given so_far =
    elim so_far.cut [
      | inl here ↦ (lines so_far.rest true, lines_on taken given so_far.rest true here)
      | inr all ↦ ([], all.all ∙ sym (append-nil given))
    ]

-- and they are the first of those that newlines ended, unless the source's end ended the last
pub given_first_or_end : (reader : ReaderState) (taken : List ℕ) (given : List (List ℕ)) → HasGiven reader taken given
    → ((others : List (List ℕ)) × (lines taken false ≡ given ++ others)) ⊎ (reader.ended ≡ true)
given_first_or_end reader taken given so_far =
    elim so_far.cut [
      | inl here ↦ inl (lines so_far.rest false, lines_on taken given so_far.rest false here)
      | inr all ↦ inr all.at_end
    ]
