-- A side with other addresses.
--   shown_wide        a side that is shown is shown with 16 address columns too
--   addressable       columns in range may be the addresses
--   readdresses_not   how other addresses are not taken
--   readdressed_shows a side with whichever addresses it takes is shown
--   readdresses_unique    taking other addresses has one answer
use Prim.Native.Nat.{ℕ, ◌-◌, ◌^◌, ◌≤◌}
use mathlib.Core.Path.{◌≡◌, refl, sym, ap, ◌∙◌}
use mathlib.Core.List.{List, [], ◌∷◌}
use native.Mathlib.Decide.{dec_lt, dec_le}
use native.Mathlib.Omega.{arith}
use lib.ListN.{length, get_or, get_or-eq_default}
use lib.Pow.{pow_mono, pow_pos}
use Rattle.kinds.specs.Decided.{both, through}
use Rattle.kinds.specs.Frame.{tick_bits}
use Rattle.bits.specs.Image.{AllBelow}
use Rattle.bits.specs.Decisions.{all_below?}
use Rattle.bits.specs.Padded.{array_width, padded}
use Rattle.bits.proofs.PaddedLaws.{padded_length, padded_at, padded_whole}
use Rattle.sheet.specs.Sheet.{Side}
use Rattle.sheet.specs.declared.Stage.{Stage}
use Rattle.sheet.specs.Layout.{StageInRange, EachStage}
use Rattle.maps.specs.Opened.{readdressed, Addressable, Readdresses, Shows}
use Rattle.maps.specs.declared.OpenSide.{OpenSide}
use Rattle.maps.proofs.OpenLaws.{shown_k}

padded_below : (b : ℕ) (A : List ℕ) → 1 ≤ b → AllBelow b A → AllBelow b (padded A)
padded_below b A least below j h = rw (padded_at array_width A j) (elim (dec_lt j (length A)) [
  | yes inside ↦ below j inside
  | no beyond ↦ let none : get_or A j 0 ≡ 0 = get_or-eq_default A 0 (omega arith) in rw none least
])

controls_wider : (b s t : ℕ) (ss : List Stage) → s ≤ t → EachStage (StageInRange b s) ss → EachStage (StageInRange b t) ss
controls_wider b s t [] h each = tt
controls_wider b s t (x ∷ ss) h (one, rest) = (
  record { direction = one.direction; control = record { least = one.control.least; most = omega (arith, one.control.most) } },
  controls_wider b s t ss h rest,
)

abbrev wide : Side → Side
wide S = record { addresses = padded S.addresses; wiring = S.wiring; stages = S.stages }

module _ {n k : ℕ} {o : OpenSide} {S : Side} (h : Shows n k o S) where
  wider : (A : List ℕ) → AllBelow (2 ^ tick_bits n k) A → AllBelow (2 ^ tick_bits array_width k) (padded A)
  wider A below = padded_below (2 ^ tick_bits array_width k) A (pow_pos (tick_bits array_width k)) (λ j l. omega (arith, below j l, pow_mono {i = n - k} {j = array_width - k} (omega (arith, h.words))))

  pub shown_wide : Shows array_width k o (wide S)
  shown_wide = record {
    is = h.is ∙ ap (λ (A : List ℕ). record { k = k; addresses = A; wiring = padded S.wiring; stages = record { items = S.stages } }) (sym (padded_whole array_width (padded S.addresses) (padded_length array_width S.addresses (omega (arith, h.addresses, h.words)))));
    ports = omega (arith, h.ports, h.words);
    words = omega arith;
    addresses = padded_length array_width S.addresses (omega (arith, h.addresses, h.words));
    wiring = h.wiring;
    stages = h.stages;
    used = record {
      addresses = wider S.addresses h.used.addresses;
      wiring = h.used.wiring;
      stages = controls_wider (2 ^ k) (2 ^ tick_bits n k) (2 ^ tick_bits array_width k) S.stages (pow_mono {i = n - k} {j = array_width - k} (omega (arith, h.words))) h.used.stages;
    };
  }

  pub addressable : (B : List ℕ) → AllBelow (2 ^ tick_bits n k) B → Addressable o.k (padded B)
  addressable B below = rw (shown_k h) (record { ports = omega (arith, h.ports, h.words); below = wider B below })

pub readdresses_not : {o : OpenSide} {A : List ℕ} → ¬ Addressable o.k A → Readdresses o A o
readdresses_not {o} {A} not = record {
  taken = λ may. absurd (not may);
  kept = λ _. refl;
  shows = λ n k S B h same count below. absurd (not (rw same (addressable h B below)));
}

pub readdressed_shows : {n k : ℕ} {o r : OpenSide} {S : Side} {A : List ℕ} → Shows n k o S → length A ≡ array_width → Addressable o.k A → Readdresses o A r
    → Shows array_width k r (readdressed A (wide S))
readdressed_shows {k = k} {A = A} h long may readdresses =
    readdresses.shows array_width k _ A (shown_wide h) (sym (padded_whole array_width A long)) long (rw (shown_k h) at may.below)

addressable? : (k : ℕ) (A : List ℕ) → Dec (Addressable k A)
addressable? k A = through (λ (p, b). record { ports = p; below = b }, λ may. (may.ports, may.below)) (both (dec_le k array_width) (all_below? (2 ^ (array_width - k)) A))

pub readdresses_unique : {o : OpenSide} {A : List ℕ} {r q : OpenSide} → Readdresses o A r → Readdresses o A q → r ≡ q
readdresses_unique {o} {A} x y = elim (addressable? o.k A) [
  | yes may ↦ x.taken may ∙ sym (y.taken may)
  | no not ↦ x.kept not ∙ sym (y.kept not)
]
