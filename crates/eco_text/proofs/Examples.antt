-- The words of small texts, by computing the definition.
use Rattle.std.proofs.Common.{◌≡◌, true, false, Some, None, refl, codes}
use Rattle.eco_text.specs.Words.{walk_of, word_then, finished, open_quote}
use Rattle.eco_text.specs.Numbers.{microns_of}

blanks_and_comment : walk_of (codes "- a\t# ; x\n;") ≡
    word_then (record { bytes = codes "-"; start = 0; end = 1; quoted = false })
    (word_then (record { bytes = codes "a"; start = 2; end = 3; quoted = false })
    (word_then (record { bytes = codes ";"; start = 10; end = 11; quoted = false }) (finished 11)))
blanks_and_comment = refl

a_quote : walk_of (codes "\"a\\\" ; b\"c \"d") ≡ word_then (record { bytes = codes "\"a\\\" ; b\""; start = 0; end = 9; quoted = true }) (word_then (record { bytes = codes "c"; start = 9; end = 10; quoted = false }) (open_quote 11))
a_quote = refl

-- lengths in millionths of a micron
microns : (microns_of (codes "0.4") ≡ Some 400000) × (microns_of (codes "2") ≡ Some 2000000) × (microns_of (codes ".5") ≡ Some 500000) × (microns_of (codes "5.") ≡ Some 5000000) × (microns_of (codes "1.2345678") ≡ Some 1234567)
microns = (refl, refl, refl, refl, refl)

microns_refused : (microns_of (codes ".") ≡ None) × (microns_of (codes "1.2.3") ≡ None) × (microns_of (codes "-1") ≡ None) × (microns_of (codes "10000.000001") ≡ None) × (microns_of (codes "10000.0000009") ≡ Some 10000000000)
microns_refused = (refl, refl, refl, refl, refl)
