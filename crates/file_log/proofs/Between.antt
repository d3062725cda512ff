-- What reads gave, call after call.
use Rattle.std.proofs.Common.{◌≡◌, ℕ, Bool, true, false, cond, List, [], ◌∷◌, ◌++◌, refl, sym, ◌∙◌, ap, subst, append_assoc, IsErrAnd}
use Rattle.std.specs.Prelude.{Option, Some, None, Result, Ok, Err, IfSome, nat_eq}
use Rattle.std.specs.Cmp.Lexicographic.{pointwise}
use Rattle.std.specs.List.{AllByRecursion, list_any}
use Rattle.std.proofs.lemmas.List.{append-nil, append_cancel_left}
use Rattle.ipdl_base.specs.declared.files.FileBytes.{FileBytes}
use Rattle.ipdl_base.specs.declared.files.FileBytes.TheVariants.{Absent, Larger, Bytes}
use Rattle.ipdl_base.specs.declared.files.Failure.{Failure}
use Rattle.ipdl_base.specs.declared.files.Failure.TheVariants.{ReadFault, NoMemory}
use Rattle.ipdl_base.specs.Outside.{FileMap, HasAtMost, IsHeldWithin}
use Rattle.ipdl_base.proofs.Ends.{by_test, same_is, is_itself}
use Rattle.ipdl_base.proofs.Held.{some_held}
use Rattle.file_log.specs.Entries.{Found, NoFile, MoreBytes, AllBytes, Failed, ReadEntry}
use Rattle.file_log.specs.Log.{Agrees, ForReads, HaveNames, HaveSucceeded, HasFailedLast, EndsWithReads, IsFound, found_of, entries_of}

-- what holds of each element of two lists
all_left : {X : Type 0} (P : X → Type 0) (one other : List X) → AllByRecursion P (one ++ other) → AllByRecursion P one
all_left P [] other h = tt
all_left P (x ∷ one) other h = (h.0, all_left P one other h.1)

all_right : {X : Type 0} (P : X → Type 0) (one other : List X) → AllByRecursion P (one ++ other) → AllByRecursion P other
all_right P [] other h = h
all_right P (x ∷ one) other h = all_right P one other h.1

all_both : {X : Type 0} (P : X → Type 0) (one other : List X) → AllByRecursion P one → AllByRecursion P other → AllByRecursion P (one ++ other)
all_both P [] other h k = k
all_both P (x ∷ one) other h k = (h.0, all_both P one other h.1 k)

-- what follows for each element
all_each : {X : Type 0} (P Q : X → Type 0) → ((x : X) → P x → Q x) → (xs : List X) → AllByRecursion P xs → AllByRecursion Q xs
all_each P Q to [] h = tt
all_each P Q to (x ∷ xs) h = (to x h.0, all_each P Q to xs h.1)

-- two texts are the same
abbrev same : List ℕ → List ℕ → Bool
same one other = pointwise nat_eq one other

-- one of the reads is of this name
abbrev is_read : List ReadEntry → List ℕ → Bool
is_read reads name = list_any (λ entry. same entry.name name) reads

-- the map that has at each name of the reads what the one has, and elsewhere what the other has
abbrev joined : List ReadEntry → FileMap → FileMap → FileMap
joined reads one other name = cond (is_read reads name) (one name) (other name)

all_read : (reads : List ReadEntry) → AllByRecursion (λ entry. is_read reads entry.name ≡ true) reads
all_read [] = tt
all_read (e ∷ reads) = (
  rw (is_itself e.name) refl,
  all_each (λ x. is_read reads x.name ≡ true) (λ x. is_read (e ∷ reads) x.name ≡ true)
      (λ x h. by_test (same e.name x.name) (λ t. rw t refl) (λ t. rw t h)) reads (all_read reads),
)

not_read : (IsOne : List ℕ → Type 0) (name : List ℕ) → (IsOne name → ⊥) → (reads : List ReadEntry) → AllByRecursion (λ entry. IsOne entry.name) reads → is_read reads name ≡ false
not_read IsOne name differs [] h = refl
not_read IsOne name differs (e ∷ reads) h = by_test (same e.name name)
    (λ t. absurd (differs (subst IsOne (same_is e.name name t) h.0)))
    (λ t. rw t (not_read IsOne name differs reads h.1))

-- a map that has the same at each name of the reads agrees with them too
same_agrees : (one other : FileMap) (reads : List ReadEntry) → AllByRecursion (λ entry. one entry.name ≡ other entry.name) reads → Agrees one reads → Agrees other reads
same_agrees one other [] e h = tt
same_agrees one other (x ∷ reads) e h = (subst (λ held. IsFound x.limit held x.found) e.0 h.0, same_agrees one other reads e.1 h.1)

-- one map that agrees with reads of names and with reads of other names
joined_agrees : (One Other : List ℕ → Type 0) → ((name : List ℕ) → One name → Other name → ⊥) → (reads more : List ReadEntry) → AllByRecursion (λ entry. One entry.name) reads → AllByRecursion (λ entry. Other entry.name) more
    → (one other : FileMap) → Agrees one reads → Agrees other more → Agrees (joined reads one other) (reads ++ more)
joined_agrees One Other apart reads more of_one of_other one other h k =
    let both = joined reads one other in
    all_both (λ entry. IsFound entry.limit (both entry.name) entry.found) reads more
    (same_agrees one both reads (all_each (λ x. is_read reads x.name ≡ true) (λ x. one x.name ≡ both x.name) (λ x t. rw t refl) reads (all_read reads)) h)
    (same_agrees other both more (all_each (λ x. Other x.name) (λ x. other x.name ≡ both x.name) (λ x is. let t = not_read One x.name (λ own. apart x.name own is) reads of_one in rw t refl) more of_other) k)

told_both : (told again : Option FileMap) (one other : List ReadEntry) → again ≡ told → IfSome told (λ files. Agrees files one) → IfSome again (λ files. Agrees files other) → IfSome told (λ files. Agrees files (one ++ other))
told_both told again one other e h k = by_map told h (subst (λ (o : Option FileMap). IfSome o (λ files. Agrees files other)) e k)
  where
    by_map : (o : Option FileMap) → IfSome o (λ files. Agrees files one) → IfSome o (λ files. Agrees files other) → IfSome o (λ files. Agrees files (one ++ other))
    by_map None a b = tt
    by_map (Some files) a b = all_both (λ entry. IsFound entry.limit (files entry.name) entry.found) one other a b

-- Nothing was read.
pub no_reads : (told : Option FileMap) (log : List ReadEntry) (P : FileMap → Type 0) → ((files : FileMap) → P files) → ForReads told log log P
no_reads told log P every = record { reads = []; logged = sym (append-nil log); told_agrees = nothing_told told; consistent = ((λ _. None), tt); each = λ files h. every files }
  where
    nothing_told : (o : Option FileMap) → IfSome o (λ files. Agrees files [])
    nothing_told None = tt
    nothing_told (Some files) = tt

-- what is held, as plain data, and back
held_found : (limit : ℕ) (held : Option (List ℕ)) (found : FileBytes) → IsHeldWithin limit held found → IsFound limit held (found_of found)
held_found limit held Absent h = h
held_found limit held Larger h = h
held_found limit held (Bytes bytes) h = h

found_held : (limit : ℕ) (held : Option (List ℕ)) (found : FileBytes) → IsFound limit held (found_of found) → IsHeldWithin limit held found
found_held limit held Absent h = h
found_held limit held Larger h = h
found_held limit held (Bytes bytes) h = h

-- One read succeeded.
pub one_read : (told : Option FileMap) {old new : List ReadEntry} (name : List ℕ) (limit : ℕ) (found : FileBytes)
    → new ≡ old ++ entries_of name limit (Ok found) → HasAtMost limit found → IfSome told (λ files. IsHeldWithin limit (files name) found)
    → ForReads told old new (λ files. IsHeldWithin limit (files name) found)
one_read told name limit found logged small held = record {
  reads = entries_of name limit (Ok found);
  logged = logged;
  told_agrees = agrees told held;
  consistent = (let some = some_held limit found small in ((λ _. some.0), (held_found limit some.0 found some.1, tt)));
  each = λ files a. found_held limit (files name) found a.0;
}
  where
    agrees : (o : Option FileMap) → IfSome o (λ files. IsHeldWithin limit (files name) found) → IfSome o (λ files. Agrees files (entries_of name limit (Ok found)))
    agrees None h = tt
    agrees (Some files) h = (held_found limit (files name) found h, tt)

-- what follows for each map
pub for_each : {told : Option FileMap} {old new : List ReadEntry} (P Q : FileMap → Type 0) → ((files : FileMap) → P files → Q files) → ForReads told old new P → ForReads told old new Q
for_each P Q to h = record { reads = h.reads; logged = h.logged; told_agrees = h.told_agrees; consistent = h.consistent; each = λ files a. to files (h.each files a) }

-- some map for which it holds
pub for_some : {told : Option FileMap} {old new : List ReadEntry} {P : FileMap → Type 0} → ForReads told old new P → (files : FileMap) × P files
for_some h = (h.consistent.0, h.each h.consistent.0 h.consistent.1)

-- Reads, and then more reads, of other names.
pub for_both : {told again : Option FileMap} {old mid new : List ReadEntry} (P Q R : FileMap → Type 0) {One Other : List ℕ → Type 0} → again ≡ told
    → HaveNames One old mid → HaveNames Other mid new → ((name : List ℕ) → One name → Other name → ⊥)
    → ((files : FileMap) → P files → Q files → R files)
    → ForReads told old mid P → ForReads again mid new Q → ForReads told old new R
for_both {told} {again} {old} {mid} P Q R {One} {Other} e m n apart to h k = record {
  reads = h.reads ++ k.reads;
  logged = k.logged ∙ ap (λ log. log ++ k.reads) h.logged ∙ append_assoc old h.reads k.reads;
  told_agrees = told_both told again h.reads k.reads e h.told_agrees k.told_agrees;
  consistent = (
    joined h.reads h.consistent.0 k.consistent.0,
    joined_agrees One Other apart h.reads k.reads
        (subst (λ reads. AllByRecursion (λ entry. One entry.name) reads) (append_cancel_left old m.reads h.reads (sym m.logged ∙ h.logged)) m.names)
        (subst (λ reads. AllByRecursion (λ entry. Other entry.name) reads) (append_cancel_left mid n.reads k.reads (sym n.logged ∙ k.logged)) n.names)
        h.consistent.0 k.consistent.0 h.consistent.1 k.consistent.1,
  );
  each = λ files a. to files
      (h.each files (all_left (λ entry. IsFound entry.limit (files entry.name) entry.found) h.reads k.reads a))
      (k.each files (all_right (λ entry. IsFound entry.limit (files entry.name) entry.found) h.reads k.reads a));
}

-- the names of no reads, of one, and of reads and more
pub no_names : (IsOne : List ℕ → Type 0) (log : List ReadEntry) → HaveNames IsOne log log
no_names IsOne log = record { reads = []; logged = sym (append-nil log); names = tt }

pub one_name : (IsOne : List ℕ → Type 0) {old new : List ReadEntry} (name : List ℕ) (limit : ℕ) (found : FileBytes) → new ≡ old ++ entries_of name limit (Ok found) → IsOne name → HaveNames IsOne old new
one_name IsOne name limit found logged is = record { reads = entries_of name limit (Ok found); logged = logged; names = (is, tt) }

pub more_names : (One Other IsOne : List ℕ → Type 0) {old mid new : List ReadEntry} → ((name : List ℕ) → One name → IsOne name) → ((name : List ℕ) → Other name → IsOne name)
    → HaveNames One old mid → HaveNames Other mid new → HaveNames IsOne old new
more_names One Other IsOne {old} to and m n = record {
  reads = m.reads ++ n.reads;
  logged = n.logged ∙ ap (λ log. log ++ n.reads) m.logged ∙ append_assoc old m.reads n.reads;
  names = all_both (λ entry. IsOne entry.name) m.reads n.reads
      (all_each (λ entry. One entry.name) (λ entry. IsOne entry.name) (λ entry. to entry.name) m.reads m.names)
      (all_each (λ entry. Other entry.name) (λ entry. IsOne entry.name) (λ entry. and entry.name) n.reads n.names);
}

-- what follows for each name
pub each_name : (One IsOne : List ℕ → Type 0) {old new : List ReadEntry} → ((name : List ℕ) → One name → IsOne name) → HaveNames One old new → HaveNames IsOne old new
each_name One IsOne to m = record { reads = m.reads; logged = m.logged; names = all_each (λ entry. One entry.name) (λ entry. IsOne entry.name) (λ entry. to entry.name) m.reads m.names }

-- reads with which a map agrees have not failed
not_failed : (limit : ℕ) (held : Option (List ℕ)) (found : Found) → IsFound limit held found → found ≡ Failed → ⊥
not_failed limit held Failed h e = h
not_failed limit held NoFile h e = cc
not_failed limit held MoreBytes h e = cc
not_failed limit held (AllBytes bytes) h e = cc

pub for_succeeded : {told : Option FileMap} {old new : List ReadEntry} {P : FileMap → Type 0} → ForReads told old new P → HaveSucceeded old new
for_succeeded h =
    let files = h.consistent.0 in
    record {
      reads = h.reads;
      logged = h.logged;
      none = all_each (λ entry. IsFound entry.limit (files entry.name) entry.found) (λ entry. entry.found ≡ Failed → ⊥) (λ entry. not_failed entry.limit (files entry.name) entry.found) h.reads h.consistent.1;
    }

pub no_reads_failed : (log : List ReadEntry) → HaveSucceeded log log
no_reads_failed log = record { reads = []; logged = sym (append-nil log); none = tt }

-- Reads that succeeded, and then a call.
both_succeeded : {old mid new : List ReadEntry} → HaveSucceeded old mid → HaveSucceeded mid new → HaveSucceeded old new
both_succeeded {old} h k = record {
  reads = h.reads ++ k.reads;
  logged = k.logged ∙ ap (λ log. log ++ k.reads) h.logged ∙ append_assoc old h.reads k.reads;
  none = all_both (λ entry. entry.found ≡ Failed → ⊥) h.reads k.reads h.none k.none;
}

then_failed : {old mid new : List ReadEntry} → HaveSucceeded old mid → HasFailedLast mid new → HasFailedLast old new
then_failed {old} h k = record {
  before = h.reads ++ k.before;
  last = k.last;
  logged = k.logged ∙ ap (λ log. log ++ (k.before ++ k.last ∷ [])) h.logged ∙ append_assoc old h.reads (k.before ++ k.last ∷ []) ∙ ap (λ more. old ++ more) (sym (append_assoc h.reads k.before (k.last ∷ [])));
  none = all_both (λ entry. entry.found ≡ Failed → ⊥) h.reads k.before h.none k.none;
  failed = k.failed;
}

pub then_ends : {X : Type 0} (old mid new : List ReadEntry) (result : Result X Failure) → HaveSucceeded old mid → EndsWithReads result mid new → EndsWithReads result old new
then_ends old mid new (Ok value) h k = both_succeeded h k
then_ends old mid new (Err ReadFault) h k = then_failed h k
then_ends old mid new (Err NoMemory) h k = both_succeeded h k

-- How one read ends.
pub read_ends : (old new : List ReadEntry) (name : List ℕ) (limit : ℕ) (result : Result FileBytes Failure) → new ≡ old ++ entries_of name limit result → EndsWithReads result old new
read_ends old new name limit (Ok found) logged = record { reads = entries_of name limit (Ok found); logged = logged; none = (found_something found, tt) }
  where
    found_something : (f : FileBytes) → found_of f ≡ Failed → ⊥
    found_something Absent e = cc
    found_something Larger e = cc
    found_something (Bytes bytes) e = cc
read_ends old new name limit (Err ReadFault) logged = record { before = []; last = record { name = name; limit = limit; found = Failed }; logged = logged; none = tt; failed = refl }
read_ends old new name limit (Err NoMemory) logged = record { reads = []; logged = logged; none = tt }

-- A call that failed, and the one in which it was made.
pub failed_ends : {X Y : Type 0} (old new : List ReadEntry) (result : Result X Failure) (again : Result Y Failure) (failure : Failure) → result ≡ Err failure → IsErrAnd again (λ e. e ≡ failure) → EndsWithReads result old new → EndsWithReads again old new
failed_ends {X} {Y} old new result (Ok value) failure was is h = absurd is
failed_ends {X} {Y} old new result (Err e) failure was is h =
    by_failure e (subst (λ (r : Result X Failure). EndsWithReads r old new) (was ∙ ap Err (sym is)) h)
  where
    by_failure : (f : Failure) → EndsWithReads {X = X} (Err f) old new → EndsWithReads {X = Y} (Err f) old new
    by_failure ReadFault h = h
    by_failure NoMemory h = h

-- A call that ran out of memory between reads.
pub no_memory_ends : {X : Type 0} (old new : List ReadEntry) (result : Result X Failure) → IsErrAnd result (λ e. e ≡ NoMemory) → HaveSucceeded old new → EndsWithReads result old new
no_memory_ends old new (Ok value) is h = absurd is
no_memory_ends {X} old new (Err e) is h = subst (λ (f : Failure). EndsWithReads {X = X} (Err f) old new) (sym is) h
