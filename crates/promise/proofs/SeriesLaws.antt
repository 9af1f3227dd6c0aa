-- What a series brings, call by call.
--   WholeTick k ws    2^k words or none
--   WholeTicks k S    every call of S brings so many
--   call_count        a call brings as many words as the run asks for
--   count_call        and 2^k words or none, of 32 bits each, are a call
--   pattern_any       two series with blank ticks at the same calls, and equally many words at the others, have one pattern, whatever the words
--   series_whole      the calls of a series bring whole ticks
--   before_none       before call 0 nothing has come
--   before_more       before the next call, the words of this one have come too
--   word_comes        the word at port p of call j is the one that comes after p others and all before call j
use Prim.Native.Nat.{ℕ, zero, suc, ◌+◌, ◌^◌, ◌<◌}
use mathlib.Core.Path.{◌≡◌, refl, ap, ◌∙◌}
use mathlib.Core.List.{List, [], ◌∷◌, ◌++◌, flatten}
use mathlib.Core.Logic.{◌⊎◌}
use native.Mathlib.Omega.{arith}
use lib.ListN.{length, get_or, take, length-append, get_or-append}
use lib.Seq.{get_or-append-add}
use Rattle.kinds.specs.Lengths.{or_none, IsLength}
use Rattle.bits.specs.Image.{AllBelow}
use Rattle.promise.specs.Series.{IsCall, Series, call_at, words_before, SamePattern}

abbrev pub WholeTick : ℕ → List ℕ → Type 0
WholeTick k ws = (length ws ≡ 2 ^ k) ⊎ (length ws ≡ 0)

abbrev pub WholeTicks : ℕ → List (List ℕ) → Type 0
WholeTicks k S = (j : ℕ) → j < length S → WholeTick k (call_at S j)

pub call_count : (k : ℕ) (ws : List ℕ) → WholeTick k ws → IsLength (length ws) (or_none (2 ^ k))
call_count k ws count = count

pub count_call : {k : ℕ} (ws : List ℕ) → AllBelow (2 ^ 32) ws → IsLength (length ws) (or_none (2 ^ k)) → IsCall k ws
count_call ws words count = record { count = count; words = words }

pub pattern_any : (S R : List (List ℕ)) → length S ≡ length R → ((j : ℕ) → j < length S → length (call_at S j) ≡ length (call_at R j)) → SamePattern S R
pattern_any S R calls counts = record { calls = calls; counts = counts }

pub series_whole : (k : ℕ) (S : List (List ℕ)) → Series k S → WholeTicks k S
series_whole k S series j reach = (series j reach).count

flatten_cons : (ws : List ℕ) (S : List (List ℕ)) → flatten (ws ∷ S) ≡ ws ++ flatten S
unfolding flatten
flatten_cons ws S = refl

before_cons : (ws : List ℕ) (S : List (List ℕ)) (j : ℕ) → words_before (ws ∷ S) (suc j) ≡ length ws + words_before S j
before_cons ws S j = ap length (flatten_cons ws (take j S)) ∙ length-append ws (flatten (take j S))

pub before_none : (S : List (List ℕ)) → words_before S 0 ≡ 0
unfolding flatten
before_none S = refl

pub before_more : (S : List (List ℕ)) (j : ℕ) → j < length S → words_before S (suc j) ≡ words_before S j + length (call_at S j)
before_more [] j h = absurd (omega arith)
before_more (ws ∷ S) zero h = omega (arith, before_cons ws S 0, before_none S, before_none (ws ∷ S))
before_more (ws ∷ S) (suc j) h = omega (arith, before_cons ws S j, before_cons ws S (suc j), before_more S j (omega arith))

pub word_comes : (S : List (List ℕ)) (j p : ℕ) → j < length S → p < length (call_at S j) → get_or (flatten S) (words_before S j + p) 0 ≡ get_or (call_at S j) p 0
word_comes [] j p h l = absurd (omega arith)
word_comes (ws ∷ S) zero p h l = rw (flatten_cons ws S, before_none (ws ∷ S)) (ap (λ (i : ℕ). get_or (ws ++ flatten S) i 0) (omega arith) ∙ get_or-append ws (flatten S) 0 p l)
word_comes (ws ∷ S) (suc j) p h l =
    rw (flatten_cons ws S, before_cons ws S j)
    (ap (λ (i : ℕ). get_or (ws ++ flatten S) i 0) (omega arith) ∙ get_or-append-add ws (flatten S) (words_before S j + p) 0 ∙ word_comes S j p (omega arith) l)
