pub mod ScriptRowLemmas
