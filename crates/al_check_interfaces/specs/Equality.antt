-- Equality of interfaces.
use Rattle.std.specs.Prelude.{◌≡◌, true}
use Rattle.al_check_interfaces.specs.declared.interfaces.Interface.{Interface}
use Rattle.al_check_interfaces.specs.contracts.interfaces.InterfacePartialEq.TheImpl as interface

-- interfaces that compare equal are equal
abbrev pub EqualAreSame : Type 0
EqualAreSame = (a b : Interface) → interface.ghosts.eq a b ≡ true → a ≡ b

-- and an interface compares equal to itself
abbrev pub SameAreEqual : Type 0
SameAreEqual = (a b : Interface) → a ≡ b → interface.ghosts.eq a b ≡ true
