-- Facts on the value of an option or a result.
use Rattle.std.proofs.Common.{Option, Some, None, IfSome, IfNone, Result, Ok, Err, IfOk, OnOk, OnErr}

pub some_by : {A : Type 0} {P Q : A → Type 0} (r : Option A) → ((x : A) → P x → Q x) → IfSome r P → IfSome r Q
some_by (Some x) f h = f x h
some_by None f h = tt

pub none_by : {A : Type 0} {P Q : Type 0} (r : Option A) → (P → Q) → IfNone r P → IfNone r Q
none_by (Some x) f h = tt
none_by None f h = f h

pub ok_by : {A E : Type 0} {P Q : A → Type 0} (r : Result A E) → ((x : A) → P x → Q x) → IfOk r P → IfOk r Q
ok_by (Ok x) f h = f x h
ok_by (Err e) f h = tt

pub on_ok_by : {A E P Q : Type 0} (r : Result A E) → (P → Q) → OnOk r P → OnOk r Q
on_ok_by (Ok x) f h = f h
on_ok_by (Err e) f h = tt

pub err_by : {A E : Type 0} {P Q : Type 0} (r : Result A E) → (P → Q) → OnErr r P → OnErr r Q
err_by (Ok x) f h = tt
err_by (Err e) f h = f h
