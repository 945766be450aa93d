-- Reading the keys of block mappings: a key is within the file, and the lines after its colon follow it.
use Rattle.std.proofs.Common.{◌≡◌, ℕ, ◌+◌, ◌≤◌, List, [], ◌∷◌, refl, arith, true, ◌||◌, Option, Some, None, Result, Ok, Err}
use Rattle.std.proofs.lemmas.Str.{IsUtf8-nil}
use Rattle.al_base.specs.declared.codes.YamlCode.{YamlCode}
use Rattle.al_base.specs.declared.codes.YamlCode.TheVariants as yaml
use Rattle.al_scalar.specs.Line.{Cell, Line, start, after_blanks}
use Rattle.al_scalar.specs.Offsets.{AreClimbing}
use Rattle.al_scalar.specs.Places.{first_text}
use Rattle.al_scalar.specs.Plain.{block}
use Rattle.al_scalar.specs.Scalar.{ScalarRead, scalar_at}
use Rattle.al_scalar.specs.declared.faults.FaultAt.{FaultAt}
use Rattle.al_scalar.proofs.OffsetLemmas.{choose}
use Rattle.al_scalar.proofs.Utf8Lemmas.{AreUtf8}
use Rattle.al_scalar.proofs.Utf8Texts.{IsText}
use Rattle.al_yaml_tree.specs.Content.{is_dash, block_fault, is_flow_start, starts_quoted, is_property, is_simple_key}
use Rattle.al_yaml_tree.specs.Flow.{CollectionReader}
use Rattle.al_yaml_tree.specs.Keys.{Key, one_line, with_lines, key_scalar, has_colon, key_before_colon, key_here}
use Rattle.al_yaml_tree.specs.Keys.{is_block_start, collection_fault, no_entry, found_key, entry_key}
use Rattle.al_yaml_tree.specs.Node.{Node, scalar_node}
use Rattle.al_yaml_tree.specs.Reading.{fails, Part, ◌>>=◌}
use Rattle.al_yaml_tree.proofs.FlowReading.{CollectionIn}
use Rattle.al_yaml_tree.proofs.LeftLines.{File, AreLeft, IsRead, starts-in, left-colon, scalar-read}
use Rattle.al_yaml_tree.proofs.NodeReading.{Reads, reads-fault, reads-given, reads-then, reads-one, reads-unless, reads-by}
use Rattle.al_yaml_tree.proofs.ScalarSpans.{Answers}
use Rattle.al_yaml_tree.proofs.SpanLemmas.{placed-more}
use Rattle.al_scalar.proofs.Standing.{Stand, stand-cut}
use Rattle.al_yaml_tree.proofs.TextLines.{value-colon}

-- ---- the scalar of a key

climbing-higher : (low end end' : ℕ) (cs : List Cell) → end ≤ end' → AreClimbing low end cs → AreClimbing low end' cs
climbing-higher low end end' [] a h = omega (arith, a, h)
climbing-higher low end end' (c ∷ cs) a h = (h.0, climbing-higher (c.1 + 1) end end' cs a h.1)

first_text-climbs : (end low : ℕ) (rest : List Line) → Stand end low rest → AreClimbing low end (first_text rest)
first_text-climbs end low [] h = absurd h.0
first_text-climbs end low (l ∷ ls) h = climbing-higher low l.end end l.text h.1.0 h.0.0

first_text-utf8 : (ls : List Line) → AreUtf8 ls → IsText (first_text ls)
first_text-utf8 [] u = IsUtf8-nil
first_text-utf8 (l ∷ ls) u = u.0

abbrev pub KeyIn : File → ℕ → Key → Type 0
KeyIn f low key = IsRead f low key.read × AreLeft f key.read.scalar.span.end key.after

abbrev pub OptionKeyIn : File → ℕ → Option Key → Type 0
OptionKeyIn f low None = Unit {0}
OptionKeyIn f low (Some key) = KeyIn f low key

-- the file as it would be if this line were the last
abbrev up_to : File → Line → File
up_to f l = record { size = l.end; is_utf8 = f.is_utf8; is_plain = f.is_plain }

abbrev read_with_lines : List Line → Result ScalarRead FaultAt → Result ScalarRead FaultAt
read_with_lines ls r = elim r [ Ok r ↦ Ok (record r { left = with_lines r.left ls }) | Err f ↦ Err f ]

module _ {f : File} where
  one_line-left : (low : ℕ) (l : Line) (ls : List Line) → AreLeft f low (l ∷ ls) → AreLeft (up_to f l) low (one_line (l ∷ ls))
  one_line-left low l ls h = record { stand = ((h.stand.0.0, refl), (omega arith, tt)); utf8 = λ u. ((h.utf8 u).0, tt) }

  with_lines-read : (low : ℕ) (l : Line) (ls : List Line) (r : Result ScalarRead FaultAt) → AreLeft f low (l ∷ ls)
      → Answers l.end (IsRead (up_to f l) low) r → Answers f.size (IsRead f low) (read_with_lines (l ∷ ls) r)
  with_lines-read low l ls (Err e) h k = let a = h.stand.1.0 in omega (arith, k, a)
  with_lines-read low l ls (Ok r) h k = record {
    placed = placed-more l.end f.size h.stand.1.0 low r.scalar.span.end low r.scalar.span.end (scalar_node r) (omega arith) (omega arith) k.placed;
    text = k.text;
    left = record {
      stand = stand-cut f.size low r.scalar.span.end (first_text r.left) l ls (first_text-climbs l.end r.scalar.span.end r.left k.left.stand) h.stand;
      utf8 = λ u. (first_text-utf8 r.left (k.left.utf8 u), (h.utf8 u).1);
    };
  }

  plain-read : (low : ℕ) (ls : List Line) → AreLeft f low ls
      → Answers f.size (IsRead f low) (read_with_lines ls (scalar_at (block 0) (one_line ls)))
  plain-read low [] h = absurd h.stand.0
  plain-read low (l ∷ ls) h = with_lines-read low l ls (scalar_at (block 0) (one_line (l ∷ ls))) h
      (scalar-read (block 0) low (one_line (l ∷ ls)) (one_line-left low l ls h))

  key_scalar-in : (low : ℕ) (ls : List Line) → AreLeft f low ls → Answers f.size (IsRead f low) (key_scalar ls)
  key_scalar-in low ls h = choose (Answers f.size (IsRead f low)) (starts_quoted (first_text ls)) (λ _. scalar-read (block 0) low ls h)
      (λ _. plain-read low ls h)

-- ---- keys

key_from-in : (f : File) (low : ℕ) (r : Result ScalarRead FaultAt) → Answers f.size (IsRead f low) r
    → Answers f.size (OptionKeyIn f low) (elim r [ Ok r ↦ Ok (key_before_colon r) | Err f ↦ Err f ])
key_from-in f low (Err e) h = h
key_from-in f low (Ok r) h =
    choose (OptionKeyIn f low) (has_colon r.left) (λ e. (h, left-colon (value-colon (block 0) (after_blanks (first_text r.left)) e) h.left)) (λ _. tt)

module _ {f : File} where
  pub key_at-in : (low : ℕ) (ls : List Line) → AreLeft f low ls → Answers f.size (OptionKeyIn f low) (key_here ls)
  key_at-in low ls h = key_from-in f low (key_scalar ls) (key_scalar-in low ls h)

  -- ---- lines that don't begin an entry

  refused-in : {A : Type 0} {P : A → Type 0} (code : List Line → YamlCode) (collection : CollectionReader) → CollectionIn f collection
      → (depth low : ℕ) (ls : List Line) → is_flow_start (first_text ls) ≡ true → AreLeft f low ls
      → Reads f P (collection depth ls >>= (λ (x : Part Node). fails (code x.left) (start ls)))
  refused-in code collection c depth low ls e h =
      reads-then {g = λ (x : Part Node). fails (code x.left) (start ls)} (c depth low ls e h) (λ x k. reads-fault (starts-in h))

  pub no_entry-in : {A : Type 0} {P : A → Type 0} (collection : CollectionReader) → CollectionIn f collection
      → (depth low : ℕ) (ls : List Line) → AreLeft f low ls → Reads f P (no_entry collection depth ls)
  unfolding no_entry
  no_entry-in collection c depth low ls h =
      let a = starts-in h in
      reads-unless (block_fault (first_text ls)) (start ls) a
      (reads-by (is_property (first_text ls)) (λ _. reads-fault a)
      (λ _. reads-by (is_flow_start (first_text ls)) (λ e. refused-in (λ left. yaml.UnexpectedCharacter) collection c depth low ls e h)
      (λ _. reads-by (starts_quoted (first_text ls))
      (λ _. reads-then {g = λ (r : ScalarRead). fails yaml.UnexpectedCharacter (start ls)}
      (reads-given (IsRead f low) (scalar_at (block 0) ls) (scalar-read (block 0) low ls h)) (λ r k. reads-fault a))
      (λ _. reads-fault a))))

  -- ---- the key of the next entry

  found_key-in : (low : ℕ) (ls : List Line) (o : Option Key) → start ls ≤ f.size → OptionKeyIn f low o → Reads f (KeyIn f low) (found_key ls o)
  found_key-in low ls None a h = reads-fault a
  found_key-in low ls (Some key) a h =
      reads-by (is_simple_key ls key.read) (λ _. reads-one a h) (λ _. reads-fault a)

  pub entry_key-in : (collection : CollectionReader) → CollectionIn f collection → (depth low : ℕ) (ls : List Line) → AreLeft f low ls
      → Reads f (KeyIn f low) (entry_key collection depth ls)
  unfolding entry_key
  entry_key-in collection c depth low ls h =
      let a = starts-in h in
      reads-unless (block_fault (first_text ls)) (start ls) a
      (reads-by (is_property (first_text ls)) (λ _. reads-fault a)
      (λ _. reads-by (is_dash (first_text ls) || is_block_start (first_text ls)) (λ _. reads-fault a)
      (λ _. reads-by (is_flow_start (first_text ls)) (λ e. refused-in collection_fault collection c depth low ls e h)
      (λ _. reads-then (reads-given (OptionKeyIn f low) (key_here ls) (key_at-in low ls h)) (λ found k. found_key-in low ls found a k)))))
