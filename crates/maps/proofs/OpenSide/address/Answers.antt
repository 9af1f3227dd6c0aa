-- Sixteen columns look at no bit of a word above the lower sixteen.
use Rattle.std.proofs.Common.{ℕ, ◌≡◌, ◌%◌, ◌^◌, sym, ap, ◌∙◌, length, arith}
use Rattle.kinds.specs.Frame.{word_at}
use Rattle.bits.specs.Image.{image}
use Rattle.bits.proofs.ImageLaws.{image_mod, same_image}
use Rattle.bits.specs.Padded.{array_width}
use Rattle.maps.specs.Opened.{IsAddress}
use Rattle.maps.specs.declared.OpenSide.{OpenSide}
use Rattle.maps.proofs.OpenLaws.{shown_k, shown_addresses}
use Rattle.maps.proofs.OpenSide.address.Goals as goal

addressed : (o : OpenSide) (c p : ℕ) {word r : ℕ} → length o.addresses ≡ array_width → word ≡ word_at o.k c p % 2 ^ array_width → r ≡ image o.addresses word
    → IsAddress o c p r
addressed o c p long word_is e n k S h =
    e
    ∙ ap (image o.addresses) (word_is ∙ ap (λ (m : ℕ). word_at o.k c p % 2 ^ m) (sym long))
    ∙ image_mod o.addresses (word_at o.k c p)
    ∙ same_image o.addresses S.addresses (shown_addresses h) (word_at o.k c p)
    ∙ ap (λ (m : ℕ). image S.addresses (word_at m c p)) (shown_k h)

pub returns : goal.returns
returns c =
    addressed c.args.self.now c.args.slot.tick.0 c.args.slot.port.0 (omega arith) (c.from.ensures ∙ c.word_number-word.ensures) (c.from-2.ensures ∙ c.image.ensures)
