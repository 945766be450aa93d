-- A printed argument is its bytes before the first control byte, `?`, and the rest printed.
use Rattle.std.proofs.Common.{◌≡◌, ◌∙◌, ℕ, ◌+◌, ◌<◌, true, List, [], ◌∷◌, ◌++◌, length, take, drop, get_or, refl, sym, ap}
use Rattle.std.specs.List.{All}
use Rattle.std.proofs.lemmas.List.{take-append-drop, drop_more, map-append}
use Rattle.std.specs.Char.{is_ascii_control}
use Rattle.al_base.specs.Printable.{printable, printable_byte}
use Rattle.al_base.proofs.PrintableTexts.{IsPlain, printable_plain}

pub printable_run : (xs : List ℕ) (at : ℕ) → at < length xs → All IsPlain (take at xs) → is_ascii_control (get_or xs at 0) ≡ true
    → take at xs ++ (63 ∷ [] ++ printable (drop (at + 1) xs)) ≡ printable xs
printable_run xs at within plain control =
    let parts : take at xs ++ get_or xs at 0 ∷ drop (at + 1) xs ≡ xs = ap (λ l. take at xs ++ l) (sym (drop_more xs at 0 within)) ∙ take-append-drop at xs in
    let here : printable_byte (get_or xs at 0) ≡ 63 = rw control refl in
    let each : printable (take at xs ++ get_or xs at 0 ∷ drop (at + 1) xs) ≡ printable (take at xs) ++ printable_byte (get_or xs at 0) ∷ printable (drop (at + 1) xs) =
    map-append printable_byte (take at xs) (get_or xs at 0 ∷ drop (at + 1) xs) in
    sym (sym (ap printable parts) ∙ each ∙ rw (printable_plain (take at xs) plain, here) refl)
