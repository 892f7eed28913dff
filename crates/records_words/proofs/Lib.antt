pub mod OnWordsLaws
