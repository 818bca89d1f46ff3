use Rattle.std.proofs.Common.{◌∙◌}
use Rattle.std.specs.Prelude.{codes}
use Rattle.translate_down.proofs.TableLemmas.{or_none, told_field}
use Rattle.translate_down.proofs.law.each_header_is_told.Goals as goal

pub returns-clause-session : goal.returns-clause-session
returns-clause-session c setting asked told = told_field setting asked told (codes "Session") ∙ simp or_none

pub returns-clause-transport : goal.returns-clause-transport
returns-clause-transport c setting asked told = told_field setting asked told (codes "Transport") ∙ simp or_none

pub returns-clause-range : goal.returns-clause-range
returns-clause-range c setting asked told = told_field setting asked told (codes "Range") ∙ simp or_none

pub returns-clause-scale : goal.returns-clause-scale
returns-clause-scale c setting asked told = told_field setting asked told (codes "Scale") ∙ simp or_none

pub returns-clause-info : goal.returns-clause-info
returns-clause-info c setting asked told = told_field setting asked told (codes "RTP-Info") ∙ simp or_none

pub returns-clause-public : goal.returns-clause-public
returns-clause-public c setting asked told = told_field setting asked told (codes "Public") ∙ simp or_none

pub returns-clause-base : goal.returns-clause-base
returns-clause-base c setting asked told = told_field setting asked told (codes "Content-Base") ∙ simp or_none

pub returns-clause-kind : goal.returns-clause-kind
returns-clause-kind c setting asked told = told_field setting asked told (codes "Content-Type") ∙ simp or_none

pub returns-clause-encoding : goal.returns-clause-encoding
returns-clause-encoding c setting asked told = told_field setting asked told (codes "Content-Encoding") ∙ simp or_none
