-- Bytes that end within the target of a request.
use Rattle.std.proofs.Common.{◌≡◌, ◌≢◌, ℕ, ◌+◌, ◌<◌, Bool, true, false, not, List, [], ◌∷◌, ◌++◌, length, get_or, take, drop, refl, sym, ap, ◌∙◌, subst, append_assoc, ne_eqb, All, MatchBool}
use Rattle.std.specs.Prelude.{◌==◌, ◌&&◌, nat_lt}
use Rattle.std.specs.List.{list_all}
use Rattle.std.proofs.lemmas.Bool.{false≢true, lt-ltb, ltb-true}
use Rattle.std.proofs.lemmas.List.{drop_more, take-append-drop}
use Rattle.std.proofs.lemmas.List.Sums.{AllPass-from_list_all, list_all-from_AllPass}
use Rattle.httparse.specs.Grammar.{AllPass, EndsInTarget, IsToken, LineEnd, is_token, is_token_byte, is_uri_byte, print_blank, print_end}
use Rattle.httparse.proofs.PieceLemmas.{newline_not_stopped, print_end_unique, space_ends_token, Stops_token}
use Rattle.httparse.proofs.RunLemmas.{run_unique, run_unstopped}
use Rattle.http_front.specs.Steps.{BeginsNewline}

-- no space
abbrev pub is_no_space : ℕ → Bool
is_no_space byte = not (byte == 32)

-- one byte of each of two texts
parts : (line : List ℕ) (at : ℕ) → at < length line → get_or line at 0 ≡ 32 → line ≡ take at line ++ 32 ∷ drop (at + 1) line
parts line at within space =
    sym (take-append-drop at line) ∙ ap (λ t. take at line ++ t) (drop_more line at 0 within ∙ ap (λ b. b ∷ drop (at + 1) line) space)

-- lines are cut off in one way
blank_unique : (a b : List LineEnd) (x y : List ℕ) → (BeginsNewline x → ⊥) → (BeginsNewline y → ⊥) → print_blank a ++ x ≡ print_blank b ++ y → x ≡ y
blank_unique [] [] x y nx ny e = e
blank_unique [] (end ∷ b) x y nx ny e = absurd (nx (end, print_blank b ++ y, e ∙ append_assoc (print_end end) (print_blank b) y))
blank_unique (end ∷ a) [] x y nx ny e = absurd (ny (end, print_blank a ++ x, sym e ∙ append_assoc (print_end end) (print_blank a) x))
blank_unique (end ∷ a) (end' ∷ b) x y nx ny e =
    let heads = print_end_unique end end' _ _ (sym (append_assoc (print_end end) (print_blank a) x) ∙ e ∙ append_assoc (print_end end') (print_blank b) y) in
    blank_unique a b x y nx ny heads.1

-- what a line has that begins with a method and ends within a target
record IsOpen (line : List ℕ) : Type 0 where
  pub method : List ℕ
  pub target : List ℕ
  pub token : IsToken method
  pub uri : AllPass is_uri_byte target
  pub joined : line ≡ method ++ 32 ∷ target

token_no_newline : (method rest : List ℕ) → IsToken method → BeginsNewline (method ++ rest) → ⊥
token_no_newline method rest token begins = newline_not_stopped begins.0 begins.1 (method ++ rest) (sym begins.2) (Stops_token method rest token.0 token.1)

opened : (bytes : List ℕ) (ends : List LineEnd) (line : List ℕ) → bytes ≡ print_blank ends ++ line → (BeginsNewline line → ⊥) → EndsInTarget bytes → IsOpen line
opened bytes ends line is none (blank, method, target, token, uri, joined) = record {
  method = method;
  target = target;
  token = token;
  uri = uri;
  joined = blank_unique ends blank line (method ++ 32 ∷ target) none (token_no_newline method (32 ∷ target) token) (sym is ∙ joined ∙ append_assoc (print_blank blank) method (32 ∷ target));
}

both : (a b : Bool) → (a && b) ≡ true → (a ≡ true) × (b ≡ true)
both true b is = (refl, is)
both false b is = absurd (false≢true is)

token_from : (word : List ℕ) → is_token word ≡ true → IsToken word
token_from word is =
    let two = both (nat_lt 0 (length word)) (list_all is_token_byte word) is in
    (ltb-true 0 (length word) two.0, AllPass-from_list_all is_token_byte word two.1)

-- the bytes end within a target where a token ends at the first space, and bytes of a target follow
pub ends_here : (bytes : List ℕ) (ends : List LineEnd) (line : List ℕ) (at : ℕ) → bytes ≡ print_blank ends ++ line → at < length line → get_or line at 0 ≡ 32
    → is_token (take at line) ≡ true → AllPass is_uri_byte (drop (at + 1) line) → EndsInTarget bytes
ends_here bytes ends line at is within space token uri =
    (ends, take at line, drop (at + 1) line, token_from (take at line) token, uri, is ∙ ap (λ t. print_blank ends ++ t) (parts line at within space) ∙ sym (append_assoc (print_blank ends) (take at line) (32 ∷ drop (at + 1) line)))

no_spaces : (word : List ℕ) → All (λ byte. byte ≢ 32) word → AllPass is_no_space word
no_spaces word all k d within = ap not (ne_eqb (get_or word k d) 32 (all k d within))

token_no_spaces : (word : List ℕ) → AllPass is_token_byte word → AllPass is_no_space word
token_no_spaces word token = no_spaces word (λ k d within space. false≢true (sym space_ends_token ∙ ap is_token_byte (sym space) ∙ token k d within))

-- what the bytes have at the first space, where they end within a target
pub record IsHere (line : List ℕ) (at : ℕ) : Type 0 where
  pub token : is_token (take at line) ≡ true
  pub uri : AllPass is_uri_byte (drop (at + 1) line)

token_to : (word : List ℕ) → IsToken word → is_token word ≡ true
token_to word token = rw (lt-ltb 0 (length word) token.0, list_all-from_AllPass is_token_byte word token.1) refl

pub is_here : (bytes : List ℕ) (ends : List LineEnd) (line : List ℕ) (at : ℕ) → bytes ≡ print_blank ends ++ line → (BeginsNewline line → ⊥)
    → at < length line → get_or line at 0 ≡ 32 → All (λ byte. byte ≢ 32) (take at line) → EndsInTarget bytes → IsHere line at
is_here bytes ends line at is none within space first within_target =
    let o = opened bytes ends line is none within_target in
    let same = run_unique is_no_space (take at line) o.method (32 ∷ drop (at + 1) line) (32 ∷ o.target) (no_spaces (take at line) first) (token_no_spaces o.method o.token.1) refl refl
    (sym (parts line at within space) ∙ o.joined) in
    let target : o.target ≡ drop (at + 1) line = cc in
    record {
      token = ap is_token same.0 ∙ token_to o.method o.token;
      uri = subst (AllPass is_uri_byte) target o.uri;
    }

-- without a space they don't
pub nowhere : (bytes : List ℕ) (ends : List LineEnd) (line : List ℕ) → bytes ≡ print_blank ends ++ line → (BeginsNewline line → ⊥)
    → All (λ byte. byte ≢ 32) line → EndsInTarget bytes → ⊥
nowhere bytes ends line is none all within_target =
    let o = opened bytes ends line is none within_target in
    run_unstopped is_no_space o.method (32 ∷ o.target) (subst (AllPass is_no_space) o.joined (no_spaces line all)) refl

-- where a token ends at the first space, what follows it decides
pub by_target : (bytes : List ℕ) (ends : List LineEnd) (line : List ℕ) (at : ℕ) → bytes ≡ print_blank ends ++ line → (BeginsNewline line → ⊥)
    → at < length line → get_or line at 0 ≡ 32 → All (λ byte. byte ≢ 32) (take at line) → is_token (take at line) ≡ true
    → (r : Bool) → MatchBool r (AllPass is_uri_byte (drop (at + 1) line)) (AllPass is_uri_byte (drop (at + 1) line) → ⊥)
    → MatchBool r (EndsInTarget bytes) (EndsInTarget bytes → ⊥)
by_target bytes ends line at is none within space first token true uri = ends_here bytes ends line at is within space token uri
by_target bytes ends line at is none within space first token false other =
    λ within_target. other (is_here bytes ends line at is none within space first within_target).uri
