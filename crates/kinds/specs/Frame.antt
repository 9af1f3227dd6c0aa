-- The words of a frame (01, 'Orders, ticks and ports'): 2^n of them, 2^k on each tick, and t = n - k, so 2^t ticks. And the cells they stand in.
--   tick_bits n k    t, the bits of a tick
--   ticks n k       2^t, the ticks of a frame
--   tick_of k i      the tick of word i, or of place i: "c = i / 2^k (whole part)"
--   port_of k i      its port: "p = i mod 2^k"
--   word_at k c p    the number of the word at tick c, port p
--   address_of k x   the address of cell x: "the cell number is address*2^k + bank" (01, 'What a sheet holds')
--   bank_of k x      its bank
--   in_order m f     f 0, f 1, .., f (m - 1)
use Rattle.std.specs.Prelude.{ℕ, zero, suc, ◌+◌, ◌-◌, ◌*◌, ◌/◌, ◌%◌, ◌^◌, List, [], ◌∷◌}

abbrev pub tick_bits : ℕ → ℕ → ℕ
tick_bits n k = n - k

abbrev pub ticks : ℕ → ℕ → ℕ
ticks n k = 2 ^ tick_bits n k

abbrev pub tick_of : ℕ → ℕ → ℕ
tick_of k i = i / 2 ^ k

abbrev pub port_of : ℕ → ℕ → ℕ
port_of k i = i % 2 ^ k

abbrev pub word_at : ℕ → ℕ → ℕ → ℕ
word_at k c p = c * 2 ^ k + p

abbrev pub address_of : ℕ → ℕ → ℕ
address_of k x = x / 2 ^ k

abbrev pub bank_of : ℕ → ℕ → ℕ
bank_of k x = x % 2 ^ k

unfoldable pub in_order : {A : Type 0} → ℕ → (ℕ → A) → List A
in_order zero f = []
in_order (suc m) f = f 0 ∷ in_order m (λ i. f (suc i))
