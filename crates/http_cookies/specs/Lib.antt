pub mod Blanks
pub mod Cookies
pub mod Laws
pub mod MemberCookie
pub mod MessageCookies
