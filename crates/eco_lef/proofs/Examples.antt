-- Libraries of small texts and their first faults, by computing the definition.
use Rattle.std.proofs.Common.{◌≡◌, [], ◌∷◌, true, false, Ok, Err, refl, codes}
use Rattle.eco_common.specs.declared.geometry.Dir.TheVariants.{Input, Inout}
use Rattle.eco_lef.specs.declared.fault.LefFault.TheVariants.{Unended, TwiceNamed, TooManyMasters, ArrayBlock}
use Rattle.eco_lef.specs.Grammar.{block_ends, output, plain_dir, direction, plain_use, supply_use, pin_use, passed_in_pin, pin_end, pin_statement, pin, size, passed_in_macro, macro_end, macro_statement_new, defined, named_block, plain_block, passed_in_library, library_end, statement_under, library_of, library_within}

an_inverter : library_of (codes "MACRO INV SIZE 0.4 BY 2 ; PIN A DIRECTION INPUT ; END A PIN V USE POWER ; END V END INV") ≡
    Ok (record {
      name = codes "INV";
      width = 400000;
      height = 2000000;
      pins = record { name = codes "A"; dir = Input; supply = false } ∷ record { name = codes "V"; dir = Inout; supply = true } ∷ [];
    } ∷ [])
unfolding statement_under defined macro_statement_new size pin pin_statement direction plain_dir output pin_use supply_use plain_use pin_end macro_end block_ends passed_in_pin passed_in_macro passed_in_library library_end named_block plain_block
an_inverter = refl

blocks_passed_over : library_of (codes "LAYER M1 PITCH 1 ; END M1 UNITS END UNITS NOTE x ; END NOTE MACRO A END A END LIBRARY \"") ≡
    Ok (record { name = codes "A"; width = 0; height = 0; pins = [] } ∷ [])
unfolding statement_under defined macro_statement_new size pin pin_statement direction plain_dir output pin_use supply_use plain_use pin_end macro_end block_ends passed_in_pin passed_in_macro passed_in_library library_end named_block plain_block
blocks_passed_over = refl

cut_in_a_pin : library_of (codes "MACRO INV PIN A PORT") ≡ Err (Unended (codes "A"))
unfolding statement_under defined macro_statement_new size pin pin_statement direction plain_dir output pin_use supply_use plain_use pin_end macro_end block_ends passed_in_pin passed_in_macro passed_in_library library_end named_block plain_block
cut_in_a_pin = refl

twice : library_of (codes "MACRO A END A MACRO A") ≡ Err (TwiceNamed 20)
unfolding statement_under defined macro_statement_new size pin pin_statement direction plain_dir output pin_use supply_use plain_use pin_end macro_end block_ends passed_in_pin passed_in_macro passed_in_library library_end named_block plain_block
twice = refl

an_array : library_of (codes "ARRAY x") ≡ Err (ArrayBlock 0)
unfolding statement_under defined macro_statement_new size pin pin_statement direction plain_dir output pin_use supply_use plain_use pin_end macro_end block_ends passed_in_pin passed_in_macro passed_in_library library_end named_block plain_block
an_array = refl

one_too_many : library_within 1 (codes "MACRO A END A MACRO B END B") ≡ Err (TooManyMasters 20)
unfolding statement_under defined macro_statement_new size pin pin_statement direction plain_dir output pin_use supply_use plain_use pin_end macro_end block_ends passed_in_pin passed_in_macro passed_in_library library_end named_block plain_block
one_too_many = refl
